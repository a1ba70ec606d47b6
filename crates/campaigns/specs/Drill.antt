-- The generator of campaigns for drills: the text of a plan and of a list of jobs, made of a number.
use Rattle.std.specs.Prelude.{ℕ, zero, suc, ◌+◌, ◌*◌, ◌/◌, ◌%◌, ◌^◌, ◌==◌, if◌then◌else◌, List, [], ◌∷◌, ◌++◌, map, codes}
use Rattle.std.specs.List.{flat_map, range_with_len}
use Rattle.std.specs.Fmt.{decimal}
use Rattle.std.specs.Int.{bytes_high_first}
use Rattle.hex.specs.Hex.{encode_lower}

-- the state behind a state: a linear congruence modulo 2^64
unfoldable pub next_state : ℕ → ℕ
next_state state = (state * 6364136223846793005 + 1442695040888963407) % 2 ^ 64

-- the state behind so many draws, from a number
abbrev pub state_at : ℕ → ℕ → ℕ
state_at number zero = number
state_at number (suc n) = next_state (state_at number n)

-- what is drawn with a state: its top 8 bits
unfoldable pub top_octet : ℕ → ℕ
top_octet state = state / 2 ^ 56

-- the octet that is drawn behind so many others
unfoldable pub draw : ℕ → ℕ → ℕ
draw number before = top_octet (state_at number (before + 1))

-- octets that are drawn one after the other, behind so many others
unfoldable pub draws : ℕ → ℕ → ℕ → List ℕ
draws number before len = map (draw number) (range_with_len before len)

-- the line of the campaign
unfoldable pub campaign_line : List ℕ
campaign_line = codes "campaign = 1\n"

unfoldable pub card_lines : List ℕ
card_lines = codes "[[card]]\nnumber = "

unfoldable pub keyset_lines : List ℕ
keyset_lines = codes "[[keyset]]\ncard = "

unfoldable pub kic_lines : List ℕ
kic_lines = codes "\nkvn = 1\nkic = \""

unfoldable pub kid_line : List ℕ
kid_line = codes "\"\nkid = \""

unfoldable pub last_quote : List ℕ
last_quote = codes "\"\n"

-- the table of a card that has so many before it
abbrev pub card_table : ℕ → List ℕ
card_table before = card_lines ++ decimal (before + 1) ++ codes "\n"

-- a number in 8 octets, in hexadecimal
unfoldable pub number_digits : ℕ → List ℕ
number_digits number = encode_lower (bytes_high_first 8 number)

-- The table of its keyset: 24 octets are drawn for each card, 16 for the KIc and 8 for the KID, where they stand behind
-- the card's number in 8 octets.
abbrev pub keyset_table : ℕ → ℕ → List ℕ
keyset_table number before =
    keyset_lines ++ decimal (before + 1) ++ kic_lines ++ encode_lower (draws number (24 * before) 16)
    ++ kid_line ++ number_digits (before + 1) ++ encode_lower (draws number (24 * before + 16) 8) ++ last_quote

-- the plan of so many cards
abbrev pub plan_text : ℕ → ℕ → List ℕ
plan_text number cards =
    campaign_line ++ flat_map card_table (range_with_len 0 cards) ++ flat_map (keyset_table number) (range_with_len 0 cards)

-- the line of the columns
unfoldable pub jobs_header : List ℕ
jobs_header = codes "job,card,kvn,tar,script\n"

-- the application of the cards' files
unfoldable pub file_tar : List ℕ
file_tar = codes ",1,b00010,"

-- an application that the cards don't have
unfoldable pub other_tar : List ℕ
other_tar = codes ",1,b00011,"

-- the keyset and the application of a job that has so many before it: every 50th job is for one that no card has
abbrev pub tar_of : ℕ → List ℕ
tar_of before = if (before + 1) % 50 == 0 then other_tar else file_tar

-- SELECT 7F10, SELECT 6F3A, UPDATE RECORD (3GPP TS 51.011: the abbreviated dialling numbers)
unfoldable pub script_front : List ℕ
script_front = codes "00a40000027f1000a40000026f3a00dc"

-- mode 04, and 28 octets
unfoldable pub script_middle : List ℕ
script_middle = codes "041c"

-- the line of a job that has so many before it: 29 octets are drawn for each job, one for the number of the record and 28
-- for its octets
abbrev pub job_line : ℕ → ℕ → ℕ → List ℕ
job_line number cards before =
    decimal (before + 1) ++ codes "," ++ decimal (before % cards + 1) ++ tar_of before
    ++ script_front ++ encode_lower ((draw number (29 * before) % 10 + 1) ∷ [])
    ++ script_middle ++ encode_lower (draws number (29 * before + 1) 28) ++ codes "\n"

-- the list of so many jobs
abbrev pub jobs_text : ℕ → ℕ → ℕ → List ℕ
jobs_text number cards count = jobs_header ++ flat_map (job_line number cards) (range_with_len 0 count)
