-- Lines are written as adds, of line contacts and of line slots, and empty line slots as deletes. Assumes nothing.
use Rattle.lists.proofs.Kit.{ℕ, ◌+◌, ◌*◌, ◌/◌, ◌%◌, ◌<◌, ◌≡◌, refl, sym, ap, ◌∙◌, subst, true, false, true≢false, List, [], ◌∷◌, ◌++◌, append-nil, Option, none, some, arith, mid_of, get_or, take, take_all, drop_at}
use Rattle.lists.specs.Every.{All}
use Rattle.lists.proofs.Every.{all_append}
use Rattle.slots.specs.Slots.{zeros?, Present}
use Rattle.writing.specs.declared.Operation.TheVariants.{Add, Delete}
use Rattle.writing.specs.Canonical.{side_by_side, plain, FitsField}
use Rattle.writing.specs.Fields.{Field, val, res, widths}
use Rattle.writing.specs.Settings.{kind, unicode16}
use Rattle.writing.specs.Writing.{bit, flag, op, number, text, type_byte, body}
use Rattle.writing.proofs.CanonicalLaws.{plain_append}
use Rattle.writing.proofs.Whole.{append_whole, number_whole, text_whole}
use Rattle.tables.specs.Allowed.{LineOk}
use Rattle.tables.specs.Layout.{text_bytes, digit_bytes, line_bytes, line_flags, line_width, digits_at}
use Rattle.tables.specs.Tables.{Line}
use Rattle.tables.proofs.EntryCodes.{bit_small, digits_stand, line_code, line_shown}
use Rattle.tables.proofs.TextCodes.{text_length, digits_length}
use Rattle.export_write.specs.LineSettings.{no_number, line_add, line_slot_setting}
use Rattle.export_write.specs.LineWriters.{LineSlotIn, line_byte, line_fields, WritesFields}
use Rattle.export_write.specs.Writers.{Wrote, Kept, WritesText, WritesNumber}
use Rattle.export_write.proofs.NumberWriting.{number_fits}
use Rattle.export_write.proofs.PlainLaws.{plain_two}
use Rattle.export_write.proofs.SlotWriting.{Slotted}
use Rattle.export_write.proofs.TextWriting.{text_fits}
use Rattle.export_write.proofs.WroteLaws.{wrote_both, wrote_as}

-- lines stand in slots of 52 bytes
pub line_slotted : Slotted LineOk line_width line_bytes
line_slotted = record { wide = omega arith; long = line_code.long; shown = line_shown }

-- ---- an add

-- its fields are written from the slot's bytes
pub fields_wrote : (p : List ℕ) (at m n end b second : ℕ) (s t u v : List ℕ) → b ≡ line_byte p → Wrote (b ∷ second ∷ []) at s t m
    → WritesNumber (mid_of digits_at 18 p) m t u n → WritesText (mid_of 20 32 p) n u v end
    → (l : Line) → Kept LineOk line_bytes p l → Wrote (line_fields second l) at s v end
fields_wrote p at m n end h second s t u v z a b c l (ok, e) =
    let f : get_or p 0 0 ≡ line_flags l.flags = ap (λ (x : List ℕ). get_or x 0 0) e in
    let k : get_or p 1 0 ≡ bit l.flags.pabx = ap (λ (x : List ℕ). get_or x 1 0) e in
    let b1 = bit_small l.flags.encryption in
    let b2 = bit_small l.flags.emergency in
    let b3 = bit_small l.flags.pabx in
    let first : h ≡ 64 + line_flags l.flags * 4 + bit l.flags.pabx * 2 = omega (arith, ok.priority) in
    let N : List ℕ = plain (number l.number) in
    let T : List ℕ = plain (text unicode16 l.text) in
    let dg : mid_of digits_at 18 p ≡ digit_bytes l.number = ap (mid_of digits_at 18) e ∙ digits_stand l in
    let tx : mid_of 20 32 p ≡ text_bytes 16 l.text
    = ap (mid_of 20 32) e ∙ ap (take 32) (drop_at (digit_bytes l.number) (text_bytes 16 l.text) 18 (digits_length l.number))
    ∙ take_all 32 (text_bytes 16 l.text) (omega (arith, text_length 16 l.text)) in
    wrote_as ((h ∷ second ∷ []) ++ (N ++ T)) (line_fields second l) at end s v (ap (λ (i : ℕ). i ∷ second ∷ N ++ T) first)
    (wrote_both (h ∷ second ∷ []) (N ++ T) at m end s t v a
    (wrote_both N T m n end t u v (b.wrote l.number (ok.number, dg)) (c.wrote l.text (16, (ok.text, tx)))))

module _ (l : Line) (ok : LineOk l) where
  contact_fits : All FitsField (number l.number ++ text unicode16 l.text)
  contact_fits = all_append FitsField (number l.number) (text unicode16 l.text) (number_fits l.number ok.number.2) (text_fits l.text ok.text.units)

  -- they are the bytes of two bytes of fields, the number and the text
  fields_plain : (second : ℕ) (fs : List Field) → widths fs ≡ 16 → second < 256
      → side_by_side fs ≡ (64 + line_flags l.flags * 4 + bit l.flags.pabx * 2) * 256 + second
      → plain (fs ++ (number l.number ++ text unicode16 l.text)) ≡ line_fields second l
  fields_plain second fs wide low e =
      let b1 = bit_small l.flags.encryption in
      let b2 = bit_small l.flags.emergency in
      let b3 = bit_small l.flags.pabx in
      let N : List Field = number l.number in
      let T : List Field = text unicode16 l.text in
      let (n, d) = number_whole l.number in
      let (m, c) = text_whole unicode16 l.text in
      let first : ℕ = 64 + line_flags l.flags * 4 + bit l.flags.pabx * 2 in
      let x : (first * 256 + second) / 256 ≡ first = omega arith in
      let y : (first * 256 + second) % 256 ≡ second = omega arith in
      plain_two (first * 256 + second) fs (N ++ T) wide e (omega (arith, ok.priority)) (append_whole N T (n, d) (m, c)) contact_fits
      ∙ (λ i. x i ∷ y i ∷ plain (N ++ T))
      ∙ ap (λ (z : List ℕ). first ∷ second ∷ z) (plain_append N T n m d c (text_fits l.text ok.text.units))

  -- ---- of a line contact

  -- its values fit
  pub line_fits : All FitsField (body unicode16 (line_add l))
  line_fits =
      let b1 = bit_small l.flags.encryption in
      let b2 = bit_small l.flags.emergency in
      let b3 = bit_small l.flags.pabx in
      let pr : l.flags.priority < 4 = ok.priority in
      let rest = subst (All FitsField) (sym (append-nil (number l.number ++ text unicode16 l.text))) contact_fits in
      (omega arith, (omega arith, (omega arith, (pr, (omega arith, (tt, (omega arith, rest)))))))

  line_plain : line_fields 1 l ≡ plain (body unicode16 (line_add l))
  line_plain =
      let f = l.flags in
      let fs : List Field = op Add ∷ flag f.encryption ∷ flag f.emergency ∷ val 2 f.priority ∷ flag f.pabx ∷ res 1 ∷ val 8 1 ∷ [] in
      sym (ap (λ (x : List Field). plain (fs ++ x)) (append-nil (number l.number ++ text unicode16 l.text)) ∙ fields_plain 1 fs refl (omega arith) (omega arith))

  -- ---- of a line slot

  module _ (i : ℕ) (low : i < 16) where
    slot_fits : All FitsField (body unicode16 (line_slot_setting i (some l)))
    slot_fits =
        let b1 = bit_small l.flags.encryption in
        let b2 = bit_small l.flags.emergency in
        let b3 = bit_small l.flags.pabx in
        let pr : l.flags.priority < 4 = ok.priority in
        (omega arith, (omega arith, (omega arith, (pr, (omega arith, (tt, (low, contact_fits)))))))

    slot_plain : line_fields i l ≡ plain (body unicode16 (line_slot_setting i (some l)))
    slot_plain =
        let f = l.flags in
        let fs : List Field = op Add ∷ flag f.encryption ∷ flag f.emergency ∷ val 2 f.priority ∷ flag f.pabx ∷ res 5 ∷ val 4 i ∷ [] in
        sym (fields_plain i fs refl (omega arith) (omega arith))

-- its fields were written: it is written as its setting
pub line_wrote : (p : List ℕ) (at end : ℕ) (s v : List ℕ) → WritesFields 1 p (at + 3) s v end → (l : Line) → Kept LineOk line_bytes p l
    → (type_byte (kind (line_add l)) ≡ 0xCA) × All FitsField (body unicode16 (line_add l)) × Wrote (plain (body unicode16 (line_add l))) (at + 3) s v end
line_wrote p at end s v w l k =
    (refl, line_fits l k.0, wrote_as (line_fields 1 l) (plain (body unicode16 (line_add l))) (at + 3) end s v (line_plain l k.0) (w.wrote l k))

-- ---- a line slot

module _ (i : ℕ) (low : i < 16) where
  -- a delete's values, and its bytes
  delete_fits : All FitsField (body unicode16 (line_slot_setting i none))
  delete_fits = (omega arith, (omega arith, (omega arith, (omega arith, (omega arith, (tt, (low, ((omega arith, λ e. omega arith), (omega arith, (omega arith, tt))))))))))

  delete_plain : 128 ∷ i ∷ 15 ∷ 0 ∷ 0 ∷ [] ≡ plain (body unicode16 (line_slot_setting i none))
  delete_plain =
      let fs : List Field = op Delete ∷ flag false ∷ flag false ∷ val 2 0 ∷ flag false ∷ res 5 ∷ val 4 i ∷ [] in
      let rest : List Field = number no_number ++ text unicode16 [] in
      let x : (32768 + i) / 256 ≡ 128 = omega arith in
      let y : (32768 + i) % 256 ≡ i = omega arith in
      sym (plain_two (32768 + i) fs rest refl (omega arith) (omega arith) (3, refl) ((omega arith, λ e. omega arith), (omega arith, (omega arith, tt))) ∙ (λ j. x j ∷ y j ∷ 15 ∷ 0 ∷ 0 ∷ []))

  -- a slot's values fit
  pub line_slot_fits : (o : Option Line) → Present LineOk o → All FitsField (body unicode16 (line_slot_setting i o))
  line_slot_fits none ok = delete_fits
  line_slot_fits (some l) ok = slot_fits l ok i low

  -- an empty slot is written as a delete
  pub delete_wrote : (p : List ℕ) (at end : ℕ) (s v : List ℕ) → zeros? p ≡ true → Wrote (128 ∷ i ∷ 15 ∷ 0 ∷ 0 ∷ []) (at + 3) s v end → (o : Option Line) → LineSlotIn p o
      → (type_byte (kind (line_slot_setting i o)) ≡ 0xD3) × All FitsField (body unicode16 (line_slot_setting i o))
      × Wrote (plain (body unicode16 (line_slot_setting i o))) (at + 3) s v end
  delete_wrote p at end s v z w none k = (refl, delete_fits, wrote_as (128 ∷ i ∷ 15 ∷ 0 ∷ 0 ∷ []) (plain (body unicode16 (line_slot_setting i none))) (at + 3) end s v delete_plain w)
  delete_wrote p at end s v z w (some l) k = absurd (true≢false (sym z ∙ ap zeros? k.1 ∙ line_shown l k.0))

  -- another one as an add
  pub slot_wrote : (p : List ℕ) (at end : ℕ) (s v : List ℕ) → zeros? p ≡ false → WritesFields i p (at + 3) s v end → (o : Option Line) → LineSlotIn p o
      → (type_byte (kind (line_slot_setting i o)) ≡ 0xD3) × All FitsField (body unicode16 (line_slot_setting i o))
      × Wrote (plain (body unicode16 (line_slot_setting i o))) (at + 3) s v end
  slot_wrote p at end s v z w none k = absurd (true≢false (ap zeros? (sym k.1) ∙ z))
  slot_wrote p at end s v z w (some l) k =
      (refl, slot_fits l k.0 i low, wrote_as (line_fields i l) (plain (body unicode16 (line_slot_setting i (some l)))) (at + 3) end s v (slot_plain l k.0 i low) (w.wrote l k))
