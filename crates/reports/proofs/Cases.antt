-- Cases worked by hand in docs/REPORTS.md, as the definitions give them. Assumes nothing.
use Prim.Native.Nat.{ℕ}
use mathlib.Core.Path.{◌≡◌, refl}
use mathlib.Core.Bool.{true, false}
use mathlib.Core.List.{List, [], ◌∷◌, map}
use mathlib.Core.Option.{none, some}
use lib.ListN.{length, replicate}
use Rattle.writing.specs.declared.KeyTarget.TheVariants.{ToGroup}
use Rattle.writing.specs.declared.Kind.TheVariants.{GroupContacts, Lines, Key, QuickTexts, Channels, StatusTexts, Last}
use Rattle.tables.specs.Limits.{handheld}
use Rattle.tables.specs.Owns.{put_own}
use Rattle.tables.specs.Tables.{Tables, fresh}
use Rattle.reports.specs.Asked.{asked}
use Rattle.reports.specs.Cut.{messages, report_bytes}
use Rattle.reports.specs.Items.{items_bytes}

-- a group contact with encryption and priority 2
one_group : Tables
one_group = put_own GroupContacts fresh (record {
  flags = record { attribute = 3; broadcast = false; encryption = true; ovcm = false; emergency = false; priority = 2 };
  address = record { 0 = 0x100001 };
  text = 0x41 ∷ [];
} ∷ [])

-- the parameters that a set reports for these types
reported : Tables → List ℕ → List ℕ
reported t types = items_bytes (asked t types)

-- channels 241, 640; CE
channels : report_bytes 1 1 (asked (put_own Channels fresh (241 ∷ 640 ∷ [])) (0xCE ∷ []))
    ≡ 0x02 ∷ 0x02 ∷ 0x00 ∷ 0x10 ∷ 0x08 ∷ 0x07 ∷ 0x0B ∷ 0x01 ∷ 0x01 ∷ 0x02 ∷ 0x8E ∷ 0x00 ∷ 0x0F ∷ 0x10 ∷ 0x00 ∷ 0x8E ∷ 0x00 ∷ 0x28 ∷ 0x00 ∷ 0x01 ∷ []
channels = refl

-- nothing to report is one message
nothing : messages handheld fresh (0xCC ∷ []) ≡ [] ∷ []
unfolding messages
nothing = refl

nothing_bytes : report_bytes 1 1 [] ≡ 0x02 ∷ 0x02 ∷ 0x00 ∷ 0x06 ∷ 0x08 ∷ 0x07 ∷ 0x0B ∷ 0x01 ∷ 0x01 ∷ 0x00 ∷ []
nothing_bytes = refl

-- D1, 88 and BF are no types
slots : reported fresh (0xD1 ∷ []) ≡ 0xD1 ∷ 0x83 ∷ []
unfolding reported
slots = refl

report_type : reported fresh (0x88 ∷ []) ≡ 0x88 ∷ 0x83 ∷ []
unfolding reported
report_type = refl

report_hash : reported fresh (0xBF ∷ []) ≡ 0xBF ∷ 0x83 ∷ []
unfolding reported
report_hash = refl

-- CD, 00, CF: CF is not answered
cut_short : reported fresh (0xCD ∷ 0x00 ∷ 0xCF ∷ []) ≡ 0x8D ∷ 0x00 ∷ 0x00 ∷ 0x00 ∷ 0x00 ∷ 0x00 ∷ 0x83 ∷ []
unfolding reported
cut_short = refl

-- FF, CB
fixed : reported fresh (0xFF ∷ 0xCB ∷ []) ≡ 0xBF ∷ 0x00 ∷ 0x8B ∷ 0x00 ∷ 0x40 ∷ 0x00 ∷ 0x00 ∷ 0x00 ∷ []
unfolding reported
fixed = refl

-- PABX 2345, no text
a_line : reported (put_own Lines fresh (record { flags = record { encryption = false; emergency = false; priority = 0; pabx = true }; number = 2 ∷ 3 ∷ 4 ∷ 5 ∷ []; text = [] } ∷ [])) (0xCA ∷ [])
    ≡ 0x8A ∷ 0x00 ∷ 0x80 ∷ 0x00 ∷ 0x23 ∷ 0x45 ∷ 0xFF ∷ 0x00 ∷ 0x00 ∷ []
unfolding reported
a_line = refl

-- the key on group 100001, voice, siren
a_key : reported (put_own Key fresh (record { target = ToGroup (record { 0 = 0x100001 }); flags = record { voice = true; status = false; siren = true } })) (0xCB ∷ [])
    ≡ 0x8B ∷ 0x00 ∷ 0xA8 ∷ 0x10 ∷ 0x00 ∷ 0x01 ∷ []
unfolding reported
a_key = refl

-- quick text 5 "A"
a_quick : reported (put_own QuickTexts fresh (none ∷ none ∷ none ∷ none ∷ none ∷ some (0x41 ∷ []) ∷ [])) (0xCC ∷ []) ≡ 0x8C ∷ 0x00 ∷ 0x14 ∷ 0x00 ∷ 0x41 ∷ 0x00 ∷ 0x00 ∷ []
unfolding reported
a_quick = refl

-- status texts 33 "B" and 40, empty
a_status : reported (put_own StatusTexts fresh (none ∷ some (0x42 ∷ []) ∷ none ∷ none ∷ none ∷ none ∷ none ∷ none ∷ some [] ∷ [])) (0xD0 ∷ [])
    ≡ 0x90 ∷ 0x00 ∷ 0x21 ∷ 0x00 ∷ 0x00 ∷ 0x42 ∷ 0x00 ∷ 0x00 ∷ 0x90 ∷ 0x00 ∷ 0x28 ∷ 0x01 ∷ 0x00 ∷ 0x00 ∷ []
unfolding reported
a_status = refl

-- group contact 100001, encryption, priority 2, "A"
a_group : reported one_group (0xC8 ∷ []) ≡ 0x88 ∷ 0x00 ∷ 0x10 ∷ 0x00 ∷ 0x01 ∷ 0x0D ∷ 0x20 ∷ 0x00 ∷ 0x41 ∷ 0x00 ∷ 0x00 ∷ []
unfolding one_group reported
a_group = refl

-- a hash of code 1
a_hash : reported (put_own Last fresh (record { code = 1; value = 1 ∷ 2 ∷ 3 ∷ 4 ∷ [] })) (0xFF ∷ []) ≡ 0xBF ∷ 0x01 ∷ 0x01 ∷ 0x01 ∷ 0x02 ∷ 0x03 ∷ 0x04 ∷ []
unfolding reported
a_hash = refl

-- 64 channels, CE four times: 255 parameters and 1
four_times : map {B = ℕ} length (messages handheld (put_own Channels fresh (replicate 64 241)) (replicate 4 0xCE)) ≡ 255 ∷ 1 ∷ []
unfolding messages
four_times = refl

-- 96 status texts of 16 units, D0 twice: 107 and 85
twice : map {B = ℕ} length (messages handheld (put_own StatusTexts fresh (replicate 96 (some (replicate 16 0x41)))) (replicate 2 0xD0)) ≡ 107 ∷ 85 ∷ []
unfolding messages
twice = refl
