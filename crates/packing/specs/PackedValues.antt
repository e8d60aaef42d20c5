-- How what stands behind a row and the settings are packed in one number for C, and what each of these C functions of a set with limits lim answers.
use Rattle.std.specs.Prelude.{ℕ, ◌≡◌, true, false, List, [], ◌∷◌}
use Rattle.std.proofs.Math.Option.{Option, none, some}
use Rattle.lists.specs.Every.{All}
use Rattle.lists.specs.Ladder.{Ladder, Answers}
use Rattle.writing.specs.declared.HomeNumbers.{HomeNumbers}
use Rattle.writing.specs.declared.KeyFlags.{KeyFlags}
use Rattle.writing.specs.declared.KeyTarget.{KeyTarget}
use Rattle.writing.specs.declared.KeyTarget.TheVariants.{Current, ToGroup, ToIndividual}
use Rattle.writing.specs.declared.SystemCode.{SystemCode}
use Rattle.writing.specs.Canonical.{side_by_side, FitsField}
use Rattle.writing.specs.Fields.{Field, val}
use Rattle.writing.specs.Writing.{flag}
use Rattle.tables.specs.declared.limits.Limits.{Limits}
use Rattle.screen.specs.Rows.{row_named}
use Rattle.values.specs.declared.answers.EmergencyKey.{EmergencyKey}
use Rattle.values.specs.declared.answers.Target.{Target}
use Rattle.values.specs.declared.answers.Target.TheVariants.{Line, Group, Individual}
use Rattle.values.specs.Digits.{AfterDigits, writing_digits}
use Rattle.values.specs.Values.{Asked, entering, tuning, key_asked, home_asked, system_asked}
use Rattle.packing.specs.declared.entries.EntryValues.{EntryValues}
use Rattle.packing.specs.declared.fixed.KeyValues.{KeyValues}

-- ---- fields side by side

-- each value has its bits, and no other bit is set
pub record PacksFields (fs : List Field) (r : ℕ) : Type 0 where
  pub fits : All FitsField fs
  pub bits : r ≡ side_by_side fs

-- an answer that the contract of a call allows, packed
pub record Packed {A : Type 0} (call : Ladder A) (fields : A → List Field) (r : ℕ) : Type 0 where
  pub answer : A
  pub allowed : Answers call answer
  pub packs : PacksFields (fields answer) r

-- ---- what stands behind a row

-- by its kind: a line has no address, an individual no IDtype, and only a group an attribute, broadcast and OVCM; "a refusal has all other bits 0"
abbrev pub entry_values : Option Target → EntryValues
entry_values none = record { address = 0; idtype = false; encryption = false; emergency = false; priority = 0; attribute = 0; broadcast = false; ovcm = false }
entry_values (some (Line f)) =
    record { address = 0; idtype = f.pabx; encryption = f.encryption; emergency = f.emergency; priority = f.priority; attribute = 0; broadcast = false; ovcm = false }
entry_values (some (Group f a)) =
    record { address = a.0; idtype = false; encryption = f.encryption; emergency = f.emergency; priority = f.priority; attribute = f.attribute; broadcast = f.broadcast; ovcm = f.ovcm }
entry_values (some (Individual f a)) =
    record { address = a.0; idtype = false; encryption = f.encryption; emergency = f.emergency; priority = f.priority; attribute = 0; broadcast = false; ovcm = false }

-- from the highest bit down: 40 OVCM, 39 broadcast, 37-38 attribute, 35-36 priority, 34 emergency, 33 encryption, 32 IDtype, 8-31 address, 0-7 number
abbrev pub entry_bits : EntryValues → ℕ → List Field
entry_bits v number =
    flag v.ovcm ∷ flag v.broadcast ∷ val 2 v.attribute ∷ val 2 v.priority ∷ flag v.emergency ∷ flag v.encryption ∷ flag v.idtype ∷ val 24 v.address ∷ val 8 number ∷ []

abbrev pub entry_fields : Asked Target → List Field
entry_fields a = entry_bits (entry_values a.value) a.number

abbrev pub Enters : (lim : Limits) (table index : ℕ) (store : List ℕ) (r : ℕ) → Type 0
Enters lim table index store r = Packed (entering lim (row_named table index) store) entry_fields r

-- ---- the digits behind a row

-- 8-15 how many, 0-7 number
abbrev pub digits_fields : AfterDigits → List Field
digits_fields a = val 8 a.count ∷ val 8 a.number ∷ []

-- an outcome that the contract of the digits' call allows, with its answer packed
pub record WritesDigits (lim : Limits) (table index : ℕ) (store buffer buffer_after : List ℕ) (r : ℕ) : Type 0 where
  pub packed : Packed (writing_digits lim (row_named table index) store buffer) digits_fields r
  pub leaves : buffer_after ≡ packed.answer.buffer

-- ---- a channel

abbrev pub channel_value : Option ℕ → ℕ
channel_value none = 0
channel_value (some c) = c

-- 8-19 the channel, 0-7 number
abbrev pub channel_fields : Asked ℕ → List Field
channel_fields a = val 12 (channel_value a.value) ∷ val 8 a.number ∷ []

abbrev pub Tunes : (lim : Limits) (position : ℕ) (store : List ℕ) (r : ℕ) → Type 0
Tunes lim position store r = Packed (tuning lim position store) channel_fields r

-- ---- the emergency key

-- where it calls: with the current place it has no address, and its group bit is kept
abbrev pub calls : KeyTarget → KeyFlags → KeyValues
calls (Current g) f = record { address = 0; current = true; group = g; voice = f.voice; status = f.status; siren = f.siren }
calls (ToGroup a) f = record { address = a.0; current = false; group = true; voice = f.voice; status = f.status; siren = f.siren }
calls (ToIndividual a) f = record { address = a.0; current = false; group = false; voice = f.voice; status = f.status; siren = f.siren }

abbrev pub key_values : Option EmergencyKey → KeyValues
key_values none = record { address = 0; current = false; group = false; voice = false; status = false; siren = false }
key_values (some k) = calls k.target k.flags

-- 36 siren, 35 status, 34 voice, 33 group, 32 current, 8-31 address, 0-7 number
abbrev pub key_bits : KeyValues → ℕ → List Field
key_bits v number = flag v.siren ∷ flag v.status ∷ flag v.voice ∷ flag v.group ∷ flag v.current ∷ val 24 v.address ∷ val 8 number ∷ []

abbrev pub key_fields : Asked EmergencyKey → List Field
key_fields a = key_bits (key_values a.value) a.number

abbrev pub AnswersKey : (lim : Limits) (store : List ℕ) (r : ℕ) → Type 0
AnswersKey lim store r = Packed (key_asked lim store) key_fields r

-- ---- the home numbers

abbrev pub home_values : Option HomeNumbers → HomeNumbers
home_values none = record { nzi = 0; np = 0 }
home_values (some h) = h

-- 17-26 NP, 8-16 NZI, 0-7 number
abbrev pub home_bits : HomeNumbers → ℕ → List Field
home_bits h number = val 10 h.np ∷ val 9 h.nzi ∷ val 8 number ∷ []

abbrev pub home_fields : Asked HomeNumbers → List Field
home_fields a = home_bits (home_values a.value) a.number

abbrev pub AnswersHome : (lim : Limits) (store : List ℕ) (r : ℕ) → Type 0
AnswersHome lim store r = Packed (home_asked lim store) home_fields r

-- ---- the system code

abbrev pub system_values : Option SystemCode → SystemCode
system_values none = record { lai = 0; la = 0; roaming = 0; par = false }
system_values (some c) = c

-- 26 PAR, 24-25 roaming, 20-23 LA, 8-19 LAI, 0-7 number
abbrev pub system_bits : SystemCode → ℕ → List Field
system_bits c number = flag c.par ∷ val 2 c.roaming ∷ val 4 c.la ∷ val 12 c.lai ∷ val 8 number ∷ []

abbrev pub system_fields : Asked SystemCode → List Field
system_fields a = system_bits (system_values a.value) a.number

abbrev pub AnswersSystem : (lim : Limits) (store : List ℕ) (r : ℕ) → Type 0
AnswersSystem lim store r = Packed (system_asked lim store) system_fields r

-- ---- inner steps: no promise cites these

-- the number packs the fields where each value has its bits
abbrev pub WhereFit : List Field → ℕ → Type 0
WhereFit fs r = All FitsField fs → r ≡ side_by_side fs
