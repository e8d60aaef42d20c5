-- A setting of a group or an individual: a head, an address and a text, written from the bytes that keep them. Assumes nothing.
use Rattle.lists.proofs.Kit.{ℕ, ◌+◌, ◌*◌, ◌<◌, ◌≡◌, refl, sym, ap, ◌∙◌, subst⁻¹, List, [], ◌∷◌, ◌++◌, append_assoc, arith, mid_of, get_or, take_all}
use Rattle.lists.specs.Every.{All}
use Rattle.lists.proofs.Every.{all_append}
use Rattle.slots.specs.Slots.{u24}
use Rattle.writing.specs.Canonical.{side_by_side, bytes, plain, FitsField}
use Rattle.writing.specs.Fields.{Field, val, widths}
use Rattle.writing.specs.Settings.{Text, Setting, kind, unicode16}
use Rattle.writing.specs.Writing.{text, type_byte, body}
use Rattle.writing.proofs.Whole.{text_whole}
use Rattle.tables.specs.Allowed.{TextOk}
use Rattle.tables.specs.Layout.{text_bytes}
use Rattle.tables.proofs.TextLaws.{Unit16}
use Rattle.tables.proofs.TextCodes.{text_length}
use Rattle.export_write.specs.Writers.{Wrote, TextIn, WritesText}
use Rattle.export_write.proofs.PlainLaws.{plain_some, plain_three}
use Rattle.export_write.proofs.TextWriting.{text_fits}
use Rattle.export_write.proofs.WroteLaws.{wrote_both, wrote_as}

-- the values of a setting fit, and its bytes behind DataLength are a head, an address and a text
abbrev pub Body : Setting → (head : List ℕ) → (address : ℕ) → Text → Type 0
Body s head a us = All FitsField (body unicode16 s) × (plain (body unicode16 s) ≡ head ++ (u24 a ++ plain (text unicode16 us)))

-- so where its fields are n bytes of fields, an address and a text
pub addressed_body : (s : Setting) (n : ℕ) (fs : List Field) (head : List ℕ) (a : ℕ) (us : Text) → body unicode16 s ≡ fs ++ (val 24 a ∷ text unicode16 us) → widths fs ≡ 8 * n → bytes n (side_by_side fs) ≡ head
    → All FitsField fs → a < 16777216 → All Unit16 us → Body s head a us
addressed_body s n fs head a us is wide e f m h =
    let (k, d) = text_whole unicode16 us in (
      subst⁻¹ (All FitsField) is (all_append FitsField fs (val 24 a ∷ text unicode16 us) f (m, text_fits us h)),
      ap plain is ∙ plain_some n fs (val 24 a ∷ text unicode16 us) wide (3 + k, omega arith) (m, text_fits us h)
          ∙ (λ i. e i ++ plain_three a (val 24 a ∷ []) (text unicode16 us) refl (omega arith) m (k, d) (text_fits us h) i),
    )

-- the setting, as it is written from the bytes p of a slot
pub record Written (type : ℕ) (head : List ℕ) (s : Setting) (p : List ℕ) : Type 0 where
  pub type_is : type_byte (kind s) ≡ type
  pub fits : All FitsField (body unicode16 s)
  pub units : Text
  pub bytes : plain (body unicode16 s) ≡ head ++ ((get_or p 1 0 ∷ get_or p 2 0 ∷ get_or p 3 0 ∷ []) ++ plain (text unicode16 units))
  pub kept : TextIn (mid_of 4 32 p) units

-- of a slot that keeps the address and the text behind a byte of flags; an empty slot keeps 0 and no text
pub written : (type flags a : ℕ) (head : List ℕ) (s : Setting) (us : Text) → type_byte (kind s) ≡ type → Body s head a us → TextOk 16 us
    → Written type head s (flags ∷ u24 a ++ text_bytes 16 us)
written type flags a head s us t (f, e) ok =
    record { type_is = t; fits = f; units = us; bytes = e; kept = (16, (ok, take_all 32 (text_bytes 16 us) (omega (arith, text_length 16 us)))) }

-- the head and the address were written, then the text: it is written as the setting
pub addressed_wrote : (type : ℕ) (head : List ℕ) (x : Setting) (p : List ℕ) (at m end : ℕ) (s t u : List ℕ) → Written type head x p
    → Wrote (head ++ (get_or p 1 0 ∷ get_or p 2 0 ∷ get_or p 3 0 ∷ [])) (at + 3) s t m → WritesText (mid_of 4 32 p) m t u end
    → (type_byte (kind x) ≡ type) × All FitsField (body unicode16 x) × Wrote (plain (body unicode16 x)) (at + 3) s u end
addressed_wrote type head x p at m end s t u k a b =
    let address : List ℕ = get_or p 1 0 ∷ get_or p 2 0 ∷ get_or p 3 0 ∷ [] in
    let T : List ℕ = plain (text unicode16 k.units) in (
      k.type_is,
      k.fits,
      wrote_as ((head ++ address) ++ T) (plain (body unicode16 x)) (at + 3) end s u (append_assoc head address T ∙ sym k.bytes)
          (wrote_both (head ++ address) T (at + 3) m end s t u a (b.wrote k.units k.kept)),
    )
