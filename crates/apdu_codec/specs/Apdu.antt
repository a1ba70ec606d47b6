-- One command at a place of a script. ETSI TS 102 221, 10.1; ETSI TS 102 226, 5.2.1.1.
use Rattle.std.specs.Prelude.{◌≡◌, ℕ, ◌+◌, ◌-◌, ◌<◌, ◌≤◌, ◌==◌, ◌&&◌, ◌||◌, nat_lt, if◌then◌else◌, List, [], ◌∷◌, length, drop}
use Rattle.apdu_codec.specs.declared.apdu.Next.{Next}
use Rattle.apdu_codec.specs.declared.apdu.Next.TheVariants.{End, Command, Short}

-- how many octets of data a command has: READ BINARY (B0) and READ RECORD (B2) have none, the others P3
abbrev pub data_len_of : ℕ → ℕ → ℕ
data_len_of ins p3 = if ins == 0xB0 || ins == 0xB2 then 0 else p3

-- how many octets behind the data are the command's Le, where `left` octets are left of the script: a
-- single last octet behind SEARCH RECORD (A2) and GET STATUS (F2)
abbrev pub le_len_of : ℕ → ℕ → ℕ
le_len_of ins left = if (ins == 0xA2 || ins == 0xF2) && (left == 1) then 1 else 0

-- what a rest of a script begins with, where the rest stands at the place `at`; the next command begins
-- behind the data and the Le
abbrev pub front_of : ℕ → List ℕ → Next
front_of at [] = End
front_of at (cla ∷ ins ∷ p1 ∷ p2 ∷ p3 ∷ behind) =
    let len = data_len_of ins p3 in
    if nat_lt (length behind) len then Short
    else Command (record { cla = cla; ins = ins; p1 = p1; p2 = p2; p3 = p3; from = at + 5; len = len }) (at + 5 + len + le_len_of ins (length behind - len))
front_of at (_ ∷ _) = Short

-- what stands at a place of a script
abbrev pub next_of : List ℕ → ℕ → Next
next_of script at = front_of at (drop at script)

-- a command takes at least an octet, and all of them are of the script; a rest that is no whole command has
-- an octet, and else the script ends
abbrev pub GoesForward : ℕ → ℕ → Next → Type 0
GoesForward at end (Command apdu next) = (at < next) × (next ≤ end) × (apdu.from + apdu.len ≤ next)
GoesForward at end Short = at < end
GoesForward at end End = at ≡ end
