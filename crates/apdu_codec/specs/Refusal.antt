-- Refusals and their status words. ETSI TS 102 221, 10.2.1; GlobalPlatform Card Specification 2.1.1, 9.1.3.
use Rattle.std.specs.Prelude.{ℕ, Bool, if◌then◌else◌, Result, Ok, Err}
use Rattle.apdu_codec.specs.declared.refusal.Refusal.{Refusal}
use Rattle.apdu_codec.specs.declared.refusal.Refusal.TheVariants.{WrongLength, WrongKind, NotRemote, ConditionsNotMet, NoCurrentEf, WrongData, FileNotFound, RecordNotFound, NoRoom, WrongParameters, ReferenceNotFound, WrongOffset, UnknownInstruction, UnknownClass, GreatestReached}

abbrev pub status_word_of : Refusal → ℕ
status_word_of WrongLength = 0x6700
status_word_of WrongKind = 0x6981
status_word_of NotRemote = 0x6982
status_word_of ConditionsNotMet = 0x6985
status_word_of NoCurrentEf = 0x6986
status_word_of WrongData = 0x6A80
status_word_of FileNotFound = 0x6A82
status_word_of RecordNotFound = 0x6A83
status_word_of NoRoom = 0x6A84
status_word_of WrongParameters = 0x6A86
status_word_of ReferenceNotFound = 0x6A88
status_word_of WrongOffset = 0x6B00
status_word_of UnknownInstruction = 0x6D00
status_word_of UnknownClass = 0x6E00
status_word_of GreatestReached = 0x9850

-- goes on with what was found, unless the command is refused
infixl 10 ◌>>=◌
abbrev pub ◌>>=◌ : {A B : Type 0} → Result A Refusal → (A → Result B Refusal) → Result B Refusal
(Ok found) >>= next = next found
(Err refusal) >>= next = Err refusal

infixl 10 ◌>>◌
abbrev pub ◌>>◌ : {A B : Type 0} → Result A Refusal → Result B Refusal → Result B Refusal
(Ok found) >> next = next
(Err refusal) >> next = Err refusal

-- goes on where a test holds, and else refuses
abbrev pub only_if : Bool → Refusal → Result (Unit {0}) Refusal
only_if test refusal = if test then Ok tt else Err refusal
