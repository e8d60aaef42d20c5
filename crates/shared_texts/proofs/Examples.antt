-- A full area, computed: 64 quick texts of 23 units and 36 status texts of 16 take 4,096 bytes. Assumes nothing.
use Rattle.lists.proofs.Kit.{ℕ, ◌≡◌, refl, List, [], ◌∷◌, ◌++◌, Option, none, some, replicate}
use Rattle.writing.specs.declared.Kind.TheVariants.{QuickTexts, StatusTexts}
use Rattle.writing.specs.declared.Operation.TheVariants.{Add, Delete}
use Rattle.writing.specs.Settings.{Text, Setting, quick_texts, status_texts}
use Rattle.tables.specs.Apply.{in_turn, apply}
use Rattle.tables.specs.Limits.{handheld}
use Rattle.tables.specs.Owns.{put_own}
use Rattle.tables.specs.Tables.{Tables, fresh}
use Rattle.tables.specs.Texts.{text_sum}

-- a text of n units
unfoldable pub units : ℕ → Text
units n = replicate n 65

-- the tables
unfoldable pub full : Tables
unfolding units
full = put_own StatusTexts (put_own QuickTexts fresh (replicate 64 (some (units 23)))) (replicate 36 (some (units 16)) ++ replicate 60 none)

-- the sum after settings, each judged by itself
sum_after_settings : List Setting → Option ℕ
sum_after_settings l = go (in_turn (apply handheld) l full)
  where
    go : Option Tables → Option ℕ
    go none = none
    go (some t) = some (text_sum t)

-- code 127 gets a text of n units
status : ℕ → Setting
status n = status_texts Add (record { index = 127; text = units n } ∷ [])

-- quick text 0 goes
gone : Setting
gone = quick_texts Delete (record { index = 0; text = [] } ∷ [])

full_sum : text_sum full ≡ 4096
unfolding full units
full_sum = refl

-- one unit more has no room, an empty text has
one_more : (sum_after_settings (status 1 ∷ []) ≡ none) × (sum_after_settings (status 0 ∷ []) ≡ some 4096)
unfolding sum_after_settings status full units
one_more = (refl, refl)

-- what a delete frees is used again; but a later delete does not help an earlier setting
deleted_first : (sum_after_settings (gone ∷ status 16 ∷ []) ≡ some 4082) × (sum_after_settings (status 16 ∷ gone ∷ []) ≡ none)
unfolding sum_after_settings status gone full units
deleted_first = (refl, refl)

-- inside a setting the sum may pass the area
written_twice : sum_after_settings (status_texts Add (record { index = 127; text = units 16 } ∷ record { index = 127; text = [] } ∷ []) ∷ []) ≡ some 4096
unfolding sum_after_settings full units
written_twice = refl

-- an add to a quick index that has a text adds nothing
quick_kept : sum_after_settings (quick_texts Add (record { index = 5; text = units 1 } ∷ []) ∷ []) ≡ some 4096
unfolding sum_after_settings full units
quick_kept = refl
