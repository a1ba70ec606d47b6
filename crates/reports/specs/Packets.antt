-- The messages of the jobs that are reserved and not settled: a line for the columns, and then a line for each message.
-- ETSI TS 102 225, 5.1; 3GPP TS 31.115, 4.2; 3GPP TS 23.040, 9.2.3.24.1 and 9.2.3.24.8.
use Rattle.std.specs.Prelude.{ℕ, ◌%◌, ◌≤◌, nat_lt, if◌then◌else◌, Option, Some, None, List, [], ◌++◌, length, reverse, codes}
use Rattle.std.specs.List.{flat_map, range_with_len}
use Rattle.std.specs.Fmt.{decimal}
use Rattle.hex.specs.Hex.{encode_lower}
use Rattle.ota_core.specs.Questions.{Reserved, last_reserved, opened_facts}
use Rattle.ota_core.specs.Outcome.{outcome_of}
use Rattle.ota_core.specs.declared.jobs.Job.{Job}
use Rattle.ota_core.specs.declared.jobs.JobId.{JobId}
use Rattle.ota_core.specs.declared.keysets.KeysetFacts.{KeysetFacts}
use Rattle.ota_core.specs.declared.references.Reference.{Reference}
use Rattle.ota_core.specs.declared.references.Reference.TheVariants.{Short, Wide}
use Rattle.ota_core.specs.declared.entries.Entry.{Entry}
use Rattle.ota_core.specs.declared.entries.Entry.TheVariants.{Reserve}
use Rattle.ota_core.specs.declared.outcomes.Outcome.{Outcome}
use Rattle.ota_core.specs.declared.outcomes.Outcome.TheVariants.{Unsettled}
use Rattle.command_packet.specs.Command.{command_octets}
use Rattle.sms_segments.specs.Cut.{piece_of, pieces_count}
use Rattle.sms_segments.specs.Header.{is_wide_reference}
use Rattle.reports.specs.Report.{counter_text, history_of}

-- a reserved script has 1 to 4,096 octets
abbrev pub HasBody : Entry → Type 0
HasBody (Reserve by moment keyset counter job tar name body) = (1 ≤ length body) × (length body ≤ 4096)
HasBody _ = Unit {0}

-- the line of the columns
unfoldable pub packet_header : List ℕ
packet_header = codes "job,counter,place,octets\n"

-- the packet of what is reserved, by the facts that its keyset was opened with. A ciphered command asks for a ciphered
-- answer.
abbrev pub packet_for : KeysetFacts → Reserved → List ℕ
packet_for facts reserved =
    command_octets (record { kic = facts.kic; kid = facts.kid }) reserved.keyset.kvn
    (record { ciphered = facts.ciphered; mode = facts.mode; answer_ciphered = facts.ciphered }) reserved.tar reserved.counter reserved.body

-- the element of the user data header that names a command packet (3GPP TS 31.115, 4.2)
abbrev pub COMMAND_PACKET : ℕ
COMMAND_PACKET = 0x70

-- the reference of a packet: the low octet of its counter, or the two low octets where its script has more than 1,024 octets
abbrev pub reference_of : Reserved → Reference
reference_of reserved =
    if nat_lt 1024 (length reserved.body) then Wide (reserved.counter % 65536) else Short (reserved.counter % 256)

-- the line of a message: the job, the counter, the place of the message, and its octets
abbrev pub message_line : JobId → ℕ → Reference → List ℕ → ℕ → List ℕ
message_line id counter reference packet place =
    decimal id.job ++ codes "," ++ counter_text counter ++ codes "," ++ decimal place ++ codes ","
    ++ encode_lower (piece_of packet COMMAND_PACKET reference place) ++ codes "\n"

-- a line for each message of a packet
abbrev pub lines_of_packet : JobId → ℕ → Reference → List ℕ → List ℕ
lines_of_packet id counter reference packet =
    flat_map (message_line id counter reference packet) (range_with_len 1 (pieces_count (length packet) (is_wide_reference reference)))

-- the lines of what is reserved, by the facts that its keyset was opened with
abbrev pub lines_of_reserved : JobId → Reserved → Option KeysetFacts → List ℕ
lines_of_reserved id reserved None = []
lines_of_reserved id reserved (Some facts) = lines_of_packet id reserved.counter (reference_of reserved) (packet_for facts reserved)

-- the lines of a job, by what has become of it and by what is reserved for it last: those of its packet where it is
-- unsettled with a counter
abbrev pub lines_for : List Entry → JobId → Outcome → Option Reserved → List ℕ
lines_for history id (Unsettled keyset counter) (Some reserved) = lines_of_reserved id reserved (opened_facts reserved.keyset history)
lines_for history id _ _ = []

-- the lines of a job, by the history of its keyset's lane
abbrev pub lines_of_job : List Entry → JobId → List ℕ
lines_of_job history id = lines_for history id (outcome_of history id) (last_reserved id (reverse history))

-- the text of the packets of the jobs by the histories of the lanes
abbrev pub packets_of : List Job → List (List Entry) → List ℕ
packets_of jobs histories =
    packet_header ++ flat_map (λ job. lines_of_job (history_of histories job.keyset.card) job.id) jobs
