-- What the office's reader answers of a message, and of the parameter at a place of one: docs/RULES.md, Q14, and docs/REPORTS.md, "For C".
use Rattle.std.specs.Prelude.{ℕ, ◌≡◌, List, [], ◌∷◌, map, length, Option, Some, None}
use Rattle.std.proofs.Math.Option.{none, some}
use Rattle.lists.specs.Ladder.{Answers}
use Rattle.writing.specs.Fields.{val}
use Rattle.writing.specs.Settings.{Text, Hash as AHash, unicode16}
use Rattle.read_fields.specs.Places.{FieldsAt}
use Rattle.read_fields.specs.TextsAndNumbers.{TextIs, NumberIs}
use Rattle.read_fields.specs.declared.hashes.HashPlace.{HashPlace}
use Rattle.read_fields.specs.declared.numbers.NumberPlace.{NumberPlace}
use Rattle.read_fields.specs.declared.texts.TextPlace.{TextPlace}
use Rattle.reports.specs.Items.{Item, group, individual, line, key, quick, home, channel, system, status, hash, unknown, item_fields, InItem}
use Rattle.reports.specs.Reading.{Read, refused, reading}
use Rattle.report_reading.specs.declared.items.Item.{Item as Found}
use Rattle.report_reading.specs.declared.items.Item.TheVariants.{Group, Individual, Line, Key, Quick, Home, Channel, System, Status, Hash, NoHash, Unknown}
use Rattle.report_reading.specs.declared.messages.ReportRead.{ReportRead}
use Rattle.report_reading.specs.declared.messages.ReportRead.TheVariants.{Size, Carrier, OtherType, Version, NoReport, Report}

-- ---- one parameter

-- the text's 16-bit units stand at this place, up to the parameter's end
pub record TextEnds (m : List ℕ) (p : TextPlace) (us : Text) (next : ℕ) : Type 0 where
  pub coding : p.coding ≡ unicode16
  pub is : TextIs m p us next

-- the hash's value stands at this place, up to the parameter's end
pub record HashEnds (m : List ℕ) (p : HashPlace) (h : AHash) (next : ℕ) : Type 0 where
  pub code : p.code ≡ h.code
  pub stands : FieldsAt (map (val 8) h.value) m p.start next

-- what is read of a parameter that ends before `next`; a number ends where its text starts
abbrev pub Says : List ℕ → ℕ → Item → Found → Type 0
Says m next (group p g) r = (t : TextPlace) × (r ≡ Group p g.flags g.address t) × TextEnds m t g.text next
Says m next (individual p x) r = (t : TextPlace) × (r ≡ Individual p x.flags x.address t) × TextEnds m t x.text next
Says m next (line p l) r =
    (n : NumberPlace) × (t : TextPlace) × (r ≡ Line p l.flags n t) × NumberIs m n l.number t.start × TextEnds m t l.text next
Says m next (key k) r = r ≡ Key k.target k.flags
Says m next (quick i us) r = (t : TextPlace) × (r ≡ Quick i t) × TextEnds m t us next
Says m next (home h) r = r ≡ Home h
Says m next (channel n p) r = r ≡ Channel n p
Says m next (system s) r = r ≡ System s
Says m next (status c p us) r = (t : TextPlace) × (r ≡ Status c p t) × TextEnds m t us next
Says m next (hash none) r = r ≡ NoHash
Says m next (hash (some h)) r = (p : HashPlace) × (r ≡ Hash p) × HashEnds m p h next
Says m next (unknown b) r = r ≡ Unknown b

-- what reading a parameter answers: it and the place behind it, or none
abbrev pub ItemRead : Type 0
ItemRead = Option (Found × ℕ)

-- a parameter in range stands at `at`, up to `next`, and this was read of it; or none does
abbrev pub ReadAt : List ℕ → ℕ → ItemRead → Type 0
ReadAt m at (Some (r, next)) = (i : Item) × Says m next i r × InItem i × FieldsAt (item_fields i) m at next
ReadAt m at None = (i : Item) (next : ℕ) → InItem i → FieldsAt (item_fields i) m at next → ⊥

-- ---- one message

-- each case's number, and what the report says
abbrev pub told : ReportRead → List Item → Read
told Size items = refused 12
told Carrier items = refused 13
told OtherType items = refused 14
told Version items = refused 1
told NoReport items = refused 4
told (Report total index count) items = record { number = 0; total = total; index = index; items = items }

-- how many parameters each case counts
abbrev pub counted : ReportRead → ℕ
counted Size = 0
counted Carrier = 0
counted OtherType = 0
counted Version = 0
counted NoReport = 0
counted (Report total index count) = count

-- "It answers the total, the index and how many parameters there are": with these parameters it is the reader's answer
abbrev pub ReadAs : ℕ → List ℕ → ReportRead → Type 0
ReadAs most m r = (items : List Item) × (length items ≡ counted r) × Answers (reading most m) (told r items)

-- ---- all parameters of a message

-- whatever the contract of reading a parameter allows here is this parameter, which ends before `next`
abbrev pub IsRead : List ℕ → ℕ → ℕ → Item → Type 0
IsRead m at next i = (r : ItemRead) → ReadAt m at r → (f : Found) × (r ≡ Some (f, next)) × Says m next i f

-- "each of the others at the byte behind the one before it", up to the message's end
abbrev pub Walked : List ℕ → ℕ → List Item → Type 0
Walked m at [] = at ≡ length m
Walked m at (i ∷ l) = (next : ℕ) × FieldsAt (item_fields i) m at next × IsRead m at next i × Walked m next l
