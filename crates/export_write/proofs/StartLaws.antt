-- A setting's type byte and DataLength, written before what follows them. Assumes nothing.
use Rattle.lists.proofs.Kit.{ℕ, ◌+◌, ◌-◌, ◌≤◌, ◌<◌, ◌≡◌, refl, sym, ap, ap₂, ◌∙◌, subst, List, [], ◌∷◌, ◌++◌, append-nil, arith, length}
use Rattle.lists.specs.Every.{All}
use Rattle.slots.specs.Slots.{u16}
use Rattle.writing.specs.declared.Kind.{Kind}
use Rattle.writing.specs.declared.Kind.TheVariants.{GroupContacts, IndividualContacts, Lines, Key, QuickTexts, Home, Channels, System, StatusTexts, Group, Individual, LineSlot, Last}
use Rattle.writing.specs.Canonical.{plain, canonical, FitsField}
use Rattle.writing.specs.Fields.{val}
use Rattle.writing.specs.Settings.{Setting, kind, unicode16}
use Rattle.writing.specs.Writing.{type_byte, body, data_length}
use Rattle.writing.proofs.CanonicalLaws.{plain_length}
use Rattle.writing.proofs.Whole.{body_whole}
use Rattle.export_write.specs.Writers.{Wrote, Started, WritesAll, WritesSetting}
use Rattle.export_write.proofs.PlainLaws.{plain_byte, plain_two}
use Rattle.export_write.proofs.WroteLaws.{wrote_before, wrote_as}

-- type bytes are bytes
pub type_small : (k : Kind) → type_byte k < 256
type_small GroupContacts = omega arith
type_small IndividualContacts = omega arith
type_small Lines = omega arith
type_small Key = omega arith
type_small QuickTexts = omega arith
type_small Home = omega arith
type_small Channels = omega arith
type_small System = omega arith
type_small StatusTexts = omega arith
type_small Group = omega arith
type_small Individual = omega arith
type_small LineSlot = omega arith
type_small Last = omega arith

-- the bytes of a setting: its type byte, DataLength, and those of the other fields
pub setting_bytes : (s : Setting) → All FitsField (body unicode16 s) → data_length unicode16 s < 65536
    → canonical unicode16 s ≡ (type_byte (kind s) ∷ u16 (data_length unicode16 s)) ++ plain (body unicode16 s)
setting_bytes s h l =
    let (n, e) = body_whole unicode16 s in
    plain_byte (type_byte (kind s)) (val 8 (type_byte (kind s)) ∷ []) (val 16 (data_length unicode16 s) ∷ body unicode16 s) refl (omega arith) (type_small (kind s)) (2 + n, omega arith) (l, h)
    ∙ ap (λ (x : List ℕ). type_byte (kind s) ∷ x)
    (plain_two (data_length unicode16 s) (val 16 (data_length unicode16 s) ∷ []) (body unicode16 s) refl (omega arith) l (n, e) h)

-- what follows it was written, and then it
pub setting_started : (type at end r : ℕ) (before after : List ℕ) → at + 3 ≤ end → end - at ≤ 65536
    → Wrote (type ∷ u16 (end - at - 1)) at before after r → Started type at end before after end
setting_started type at end r before after low high w = record { same = refl; setting = all }
  where
    all : (s : Setting) (was : List ℕ) → type_byte (kind s) ≡ type → All FitsField (body unicode16 s)
        → Wrote (plain (body unicode16 s)) (at + 3) was before end → Wrote (canonical unicode16 s) at was after end
    all s was t h v =
        let (n, e) = body_whole unicode16 s in
        let l : length (plain (body unicode16 s)) ≡ n = plain_length (body unicode16 s) n e in
        let d : end - at - 1 ≡ data_length unicode16 s = omega (arith, v.next) in
        let x : (type ∷ u16 (end - at - 1)) ++ plain (body unicode16 s) ≡ canonical unicode16 s
        = ap₂ (λ (a b : ℕ). (a ∷ u16 b) ++ plain (body unicode16 s)) (sym t) d ∙ sym (setting_bytes s h (omega arith)) in
        wrote_as ((type ∷ u16 (end - at - 1)) ++ plain (body unicode16 s)) (canonical unicode16 s) at end was after x
        (wrote_before (type ∷ u16 (end - at - 1)) (plain (body unicode16 s)) at (at + 3) end was before after v
        (subst (λ (m : ℕ). Wrote (type ∷ u16 (end - at - 1)) at before after m) w.next w))

-- so what the lent bytes hold was written as a setting, where its fields after DataLength were written before
pub setting_writes : {A : Type 0} (Held : A → Type 0) (setting : A → Setting) (type at room end r : ℕ) (before mid after : List ℕ)
    → Started type at end mid after r → at ≤ end → end ≤ at + room
    → ((a : A) → Held a → (type_byte (kind (setting a)) ≡ type) × All FitsField (body unicode16 (setting a)) × Wrote (plain (body unicode16 (setting a))) (at + 3) before mid end)
    → WritesSetting Held setting at room before after r
setting_writes Held setting type at room end r before mid after st low high h = record {
  from = omega (arith, st.same);
  most = omega (arith, st.same);
  wrote = λ a k. let (t, f, w) = h a k in st.setting (setting a) before t f w;
}

-- one setting is all that was written
pub one_writes : {A : Type 0} (Held : A → Type 0) (setting : A → Setting) (at room r : ℕ) (before after : List ℕ)
    → WritesSetting Held setting at room before after r → WritesAll Held (λ a. setting a ∷ []) at room before after (record { end = r; count = 1 })
one_writes Held setting at room r before after w = record {
  writes = record {
    from = w.from;
    most = w.most;
    wrote = λ a k. wrote_as (canonical unicode16 (setting a)) (canonical unicode16 (setting a) ++ []) at r before after (sym (append-nil (canonical unicode16 (setting a)))) (w.wrote a k);
  };
  counted = λ a k. refl;
}
