-- The bytes of a parameter, its head and what stands behind it, and when they were written. Assumes nothing.
use Rattle.lists.proofs.Kit.{ℕ, ◌+◌, ◌*◌, ◌≤◌, ◌<◌, ◌≡◌, refl, sym, ap, ◌∙◌, false, List, [], ◌∷◌, ◌++◌, append-nil, arith, mid_of, length, length-drop, length-take-le, drop, take, take_all}
use Rattle.lists.specs.Every.{All}
use Rattle.slots.specs.Slots.{u24}
use Rattle.writing.specs.Canonical.{side_by_side, bytes, plain, FitsField}
use Rattle.writing.specs.Fields.{Field, val, widths}
use Rattle.writing.specs.Settings.{Text, unicode16}
use Rattle.writing.specs.Writing.{flag, text}
use Rattle.writing.proofs.Whole.{Whole, append_whole}
use Rattle.tables.specs.Allowed.{TextOk}
use Rattle.tables.specs.Layout.{text_bytes}
use Rattle.tables.proofs.TextCodes.{text_length}
use Rattle.export_write.specs.Writers.{Wrote, WritesText}
use Rattle.export_write.proofs.PlainLaws.{plain_byte, plain_some, plain_three}
use Rattle.export_write.proofs.WroteLaws.{wrote_as, wrote_both, wrote_length}
use Rattle.reports.specs.declared.Asked.{Asked}
use Rattle.reports.specs.Items.{good, item_bytes}
use Rattle.reports.specs.TableSlots.{EntryOf, EntryOk, InPlaces, entry_bytes, item_at}
use Rattle.report_write.specs.ItemWriters.{Keeps, WritesEntry, WritesHeaded, item_most}

-- ---- the bytes

-- the type byte and a good result are two bytes
pub good_plain : (type : ℕ) (fs : List Field) → type < 256 → Whole fs → All FitsField fs → plain (val 8 type ∷ good fs) ≡ type ∷ 0 ∷ plain fs
good_plain type fs l (n, e) h =
    plain_byte type (val 8 type ∷ []) (good fs) refl (omega arith) l (1 + n, omega arith) (omega arith, (omega arith, h))
    ∙ ap (λ (x : List ℕ). type ∷ x) (plain_byte 0 (flag false ∷ val 7 0 ∷ []) fs refl refl (omega arith) (n, e) h)

-- and n bytes of fields before others are n more
pub headed_plain : (type n : ℕ) (fs rest : List Field) (head : List ℕ) → type < 256 → widths fs ≡ 8 * n → bytes n (side_by_side fs) ≡ head → Whole rest → All FitsField (fs ++ rest)
    → All FitsField rest → plain (val 8 type ∷ good (fs ++ rest)) ≡ (type ∷ 0 ∷ head) ++ plain rest
headed_plain type n fs rest head l w e r f g =
    good_plain type (fs ++ rest) l (append_whole fs rest (n, w) r) f ∙ ap (λ (x : List ℕ). type ∷ 0 ∷ x) (plain_some n fs rest w r g ∙ ap (λ (x : List ℕ). x ++ plain rest) e)

-- 24 bits are three
pub three_plain : (bits : ℕ) (fs : List Field) → widths fs ≡ 24 → side_by_side fs ≡ bits → bits < 16777216 → plain fs ≡ u24 bits
three_plain bits fs w e l = ap plain (sym (append-nil fs)) ∙ plain_three bits fs [] w e l (0, refl) tt

pub bits_plain : (type bits : ℕ) (fs : List Field) → type < 256 → widths fs ≡ 24 → side_by_side fs ≡ bits → bits < 16777216 → All FitsField fs
    → type ∷ 0 ∷ u24 bits ≡ plain (val 8 type ∷ good fs)
bits_plain type bits fs l w e m f = sym (good_plain type fs l (3, w) f ∙ ap (λ (x : List ℕ). type ∷ 0 ∷ x) (three_plain bits fs w e m))

-- ---- what was written

-- a head, and a text behind it
pub headed_wrote : (head kept before t after : List ℕ) (m r : ℕ) → length head + length kept + 2 ≤ length before → (0 + length head ≤ length before → Wrote head 0 before t m)
    → (m + length kept + 2 ≤ length t → WritesText kept m t after r) → WritesHeaded head kept before after r
headed_wrote head kept before t after m r l f g =
    let a : Wrote head 0 before t m = f (omega arith) in
    let b : WritesText kept m t after r = g (omega (arith, a.next, wrote_length head 0 m before t a)) in
    record {
      from = omega arith;
      most = omega (arith, a.next, b.most);
      wrote = λ us k. wrote_both head (plain (text unicode16 us)) 0 m r before t after a (b.wrote us k);
    }

-- bytes that are those of whatever is kept
pub bytes_writes : (a : Asked) (slot : List ℕ) (place rank r : ℕ) (before after bs : List ℕ) → length bs ≤ item_most → Wrote bs 0 before after r
    → ((x : EntryOf a) → Keeps a place slot x → bs ≡ item_bytes (item_at a place rank x)) → WritesEntry a slot place rank before after r
bytes_writes a slot place rank r before after bs l w h = record {
  from = omega arith;
  most = omega (arith, w.next);
  wrote = λ x k. wrote_as bs (item_bytes (item_at a place rank x)) 0 r before after (h x k) w;
}

-- a head, and the text that is kept
pub text_writes : (a : Asked) (slot : List ℕ) (place rank r : ℕ) (before after head kept : List ℕ) (n : ℕ) (units : EntryOf a → Text)
    → length head + length kept + 2 ≤ item_most → WritesHeaded head kept before after r
    → ((x : EntryOf a) → Keeps a place slot x → TextOk n (units x) × (kept ≡ text_bytes n (units x)) × (head ++ plain (text unicode16 (units x)) ≡ item_bytes (item_at a place rank x)))
    → WritesEntry a slot place rank before after r
text_writes a slot place rank r before after head kept n units l w h = record {
  from = w.from;
  most = omega (arith, w.most);
  wrote = λ x k.
      let (ok, e, b) = h x k in
      wrote_as (head ++ plain (text unicode16 (units x))) (item_bytes (item_at a place rank x)) 0 r before after b (w.wrote (units x) (n, (ok, e)));
}

-- where the text has 16 units, behind so many bytes of the slot
pub short_writes : (a : Asked) (slot : List ℕ) (place rank r : ℕ) (before after : List ℕ) (at : ℕ) (units : EntryOf a → Text) (head : List ℕ → List ℕ)
    → length slot ≡ at + 32 → length (head slot) ≤ 7 → ((x : EntryOf a) → EntryOk a x → TextOk 16 (units x) × (drop at (entry_bytes a x) ≡ text_bytes 16 (units x)))
    → ((x : EntryOf a) → InPlaces a place → EntryOk a x → head (entry_bytes a x) ++ plain (text unicode16 (units x)) ≡ item_bytes (item_at a place rank x))
    → WritesHeaded (head slot) (mid_of at 32 slot) before after r → WritesEntry a slot place rank before after r
short_writes a slot place rank r before after at units head l m kept is w =
    text_writes a slot place rank r before after (head slot) (mid_of at 32 slot) 16 units (omega (arith, length-take-le 32 (drop at slot) (omega (arith, length-drop at slot)))) w
    (λ x k.
    let (ok, e) = kept x k.1 in (
      ok,
      ap (mid_of at 32) k.2 ∙ ap (take 32) e ∙ take_all 32 (text_bytes 16 (units x)) (omega (arith, text_length 16 (units x))),
      ap (λ (s : List ℕ). head s ++ plain (text unicode16 (units x))) k.2 ∙ is x k.0 k.1,
    ))
