-- What the reader answers, packed: by its case. Assumes nothing.
use Rattle.lists.proofs.Kit.{ℕ, ◌+◌, ◌*◌, ◌<◌, ◌≡◌, refl, sym, ap, ap₂, ◌∙◌, subst, Bool, true, false, cond, List, length, arith, ltb}
use Rattle.writing.specs.declared.KeyFlags.{KeyFlags}
use Rattle.writing.specs.declared.KeyTarget.{KeyTarget}
use Rattle.tables.specs.Layout.{key_flags, key_address}
use Rattle.reports.specs.Items.{Item}
use Rattle.report_reading.specs.declared.items.Item.{Item as Found}
use Rattle.std.specs.Prelude.{Some, None}
use Rattle.report_reading.specs.declared.messages.ReportRead.{ReportRead}
use Rattle.report_reading.specs.declared.messages.ReportRead.TheVariants.{Report}
use Rattle.report_reading.specs.Reading.{ItemRead, told, counted}
use Rattle.packing.specs.PackedValues.{WhereFit}
use Rattle.packing_office.specs.declared.parameter.Parameter.{Parameter}
use Rattle.packing_office.specs.declared.places.Places.{Places}
use Rattle.packing_office.specs.PackedReading.{message_fields, entry, parameter, parameter_read, parameter_fields, bare, places, places_read, places_fields}

-- ---- a message

-- what is packed of every answer with these parameters
abbrev pub MessagePacked : ReportRead → ℕ → Type 0
MessagePacked x r = (items : List Item) → length items ≡ counted x → WhereFit (message_fields (told x items)) r

pub message_case : (x y : ReportRead) (r : ℕ) → x ≡ y → MessagePacked y r → MessagePacked x r
message_case x y r e p = subst (λ (z : ReportRead). MessagePacked z r) (sym e) p

pub report_case : (x : ReportRead) (total index count : ℕ) → x ≡ Report total index count → MessagePacked x (total * 256 + index * 65536 + count * 16777216)
report_case x total index count e = message_case x (Report total index count) _ e (λ items n f. omega (arith, n))

-- ---- a parameter

pub parameter_case : (i j : Found) (r : Parameter) → i ≡ j → r ≡ parameter j → r ≡ parameter i
parameter_case i j r e p = p ∙ sym (ap parameter e)

pub flags_case : (asked x y index value : ℕ) (r : Parameter) → r ≡ entry asked x index value → x ≡ y → r ≡ entry asked y index value
flags_case asked x y index value r e p = e ∙ ap (λ z. entry asked z index value) p

pub value_case : (asked flags index x y : ℕ) (r : Parameter) → r ≡ entry asked flags index x → x ≡ y → r ≡ entry asked flags index y
value_case asked flags index x y r e p = e ∙ ap (λ z. entry asked flags index z) p

-- where the key calls
pub key_case : (t u : KeyTarget) (f : KeyFlags) (r : Parameter) (bits a : ℕ) → t ≡ u → r ≡ entry 0xCB bits 0 a → bits ≡ key_flags (record { target = u; flags = f }) → a ≡ key_address u
    → r ≡ entry 0xCB (key_flags (record { target = t; flags = f })) 0 (key_address t)
key_case t u f r bits a e p b z =
    p ∙ ap₂ (λ x y. entry 0xCB x 0 y) b z ∙ ap (λ v. entry 0xCB (key_flags (record { target = v; flags = f })) 0 (key_address v)) (sym e)

pub parameter_packed : (x : ItemRead) (i : Found) (next : ℕ) (p : Parameter) (r : ℕ) → x ≡ Some (i, next) → p ≡ parameter i → WhereFit (parameter_fields p) r → WhereFit (parameter_fields (parameter_read x)) r
parameter_packed x i next p r e d w =
    subst (λ (y : ItemRead). WhereFit (parameter_fields (parameter_read y)) r) (sym e) (subst (λ (q : Parameter). WhereFit (parameter_fields q) r) d w)

pub no_parameter : (x : ItemRead) → x ≡ None → WhereFit (parameter_fields (parameter_read x)) 0
no_parameter x e = subst (λ (y : ItemRead). WhereFit (parameter_fields (parameter_read y)) 0) (sym e) (λ f. refl)

-- ---- where its parts stand

pub places_case : (i j : Found) (next : ℕ) (r : Places) → i ≡ j → r ≡ places j next → r ≡ places i next
places_case i j next r e p = p ∙ sym (ap (λ k. places k next) e)

module _ (x : ItemRead) (i : Found) (next : ℕ) (e : x ≡ Some (i, next)) where
  by_next : (b : Bool) → ltb next 65536 ≡ b → (r : ℕ) → WhereFit (places_fields (cond b (places i next) (bare 0 0 0))) r → WhereFit (places_fields (places_read x)) r
  by_next b d r w =
      subst (λ (y : ItemRead). WhereFit (places_fields (places_read y)) r) (sym e)
      (subst (λ (c : Bool). WhereFit (places_fields (cond c (places i next) (bare 0 0 0))) r) (sym d) w)

  pub places_packed : ltb next 65536 ≡ true → (p : Places) (r : ℕ) → p ≡ places i next → WhereFit (places_fields p) r → WhereFit (places_fields (places_read x)) r
  places_packed l p r d w = by_next true l r (subst (λ (q : Places). WhereFit (places_fields q) r) d w)

  pub no_room : ltb next 65536 ≡ false → WhereFit (places_fields (places_read x)) 0
  no_room l = by_next false l 0 (λ f. refl)

pub no_places : (x : ItemRead) → x ≡ None → WhereFit (places_fields (places_read x)) 0
no_places x e = subst (λ (y : ItemRead). WhereFit (places_fields (places_read y)) 0) (sym e) (λ f. refl)
