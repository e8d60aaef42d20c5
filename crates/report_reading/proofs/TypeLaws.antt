-- A parameter by its type byte and the byte behind it: what reading one answers, by what the reader of its type does. Assumes nothing.
use Rattle.std.specs.Prelude.{Option as Maybe, Some, None}
use Rattle.lists.proofs.Kit.{ℕ, ◌+◌, ◌%◌, ◌≤◌, ◌≡◌, refl, sym, ◌∙◌, subst, ◌≢◌, Bool, true, false, List, [], arith, eqb-true, eqb-false, eqb, length, drop, take}
use Rattle.lists.specs.Bytes.{Bytes}
use Rattle.read_fields.specs.Places.{FieldsAt, be}
use Rattle.read_fields.proofs.Heads.{head_in, head_out, be_small}
use Rattle.read_fields.proofs.Parts.{nothing}
use Rattle.read_fields.proofs.Walk.{agree_at}
use Rattle.reports.specs.declared.Asked.{Asked}
use Rattle.reports.specs.declared.Asked.TheVariants.{Groups, Individuals, Lines, Key, QuickTexts, Home, Channels, System, StatusTexts, Hash}
use Rattle.reports.specs.Contents.{make}
use Rattle.reports.specs.Items.{Item, unknown, failed, item_byte, item_fields, item_body, InItem}
use Rattle.reports.specs.Types.{report_byte, NoType}
use Rattle.reports.proofs.ByType.{View, known, other, view, byte_make, one_type}
use Rattle.reports.proofs.ItemOne.{no_error}
use Rattle.report_reading.specs.Reading.{ReadAt}
use Rattle.report_reading.specs.Readers.{ItemAt, FailedAt, AsksIs, TypeAt}
use Rattle.report_reading.specs.declared.items.Item.TheVariants.{Unknown}
use Rattle.report_reading.specs.Reading.{ItemRead}
use Rattle.report_reading.proofs.HeadLaws.{byte_out, byte_in}

-- ---- which byte asks

-- those from C8 to D0 and FF do
pub asks_some : {b : ℕ} → 0xC8 ≤ b → b ≤ 0xD0 → AsksIs b true
asks_some {b} l h n =
    let l : 0xC9 ≤ b = omega (arith, n Groups) in
    let l : 0xCA ≤ b = omega (arith, n Individuals) in
    let l : 0xCB ≤ b = omega (arith, n Lines) in
    let l : 0xCC ≤ b = omega (arith, n Key) in
    let l : 0xCD ≤ b = omega (arith, n QuickTexts) in
    let l : 0xCE ≤ b = omega (arith, n Home) in
    let l : 0xCF ≤ b = omega (arith, n Channels) in
    let l : 0xD0 ≤ b = omega (arith, n System) in
    omega (arith, n StatusTexts)

pub asks_hash : {b : ℕ} → b ≡ 0xFF → AsksIs b true
asks_hash e n = n Hash (sym e)

-- no other does
pub asks_none : {b : ℕ} → (0xC8 ≤ b → b ≤ 0xD0 → ⊥) → b ≢ 0xFF → AsksIs b false
asks_none n k Groups e = n (omega arith) (omega arith)
asks_none n k Individuals e = n (omega arith) (omega arith)
asks_none n k Lines e = n (omega arith) (omega arith)
asks_none n k Key e = n (omega arith) (omega arith)
asks_none n k QuickTexts e = n (omega arith) (omega arith)
asks_none n k Home e = n (omega arith) (omega arith)
asks_none n k Channels e = n (omega arith) (omega arith)
asks_none n k System e = n (omega arith) (omega arith)
asks_none n k StatusTexts e = n (omega arith) (omega arith)
asks_none n k Hash e = k (sym e)

-- ---- an error's byte

module _ (m : List ℕ) (p : ℕ) (h : Bytes m) where
  -- none where no byte is left
  pub not_failed : (p + 1 ≤ length m → ⊥) → FailedAt m p false
  not_failed never next y = never (head_out failed [] m p 1 refl (omega arith) h next y).0

  -- the byte decides
  pub failed_by : {N : ℕ} (r : Bool) → N ≡ be 0 (take 1 (drop p m)) → p + 1 ≤ length m → eqb N 0x83 ≡ r → FailedAt m p r
  failed_by {N} true byte room e =
      let z : be 0 (take 1 (drop p m)) ≡ 0x83 = sym byte ∙ eqb-true N 0x83 e in
      (room, head_in failed [] m p 1 refl (omega arith) h (p + 1) room (omega arith, (omega arith, tt)) (nothing m (p + 1)))
  failed_by {N} false byte room e = λ next y.
      let (r, k, z) = head_out failed [] m p 1 refl (omega arith) h next y in
      eqb-false N 0x83 e (omega (arith, be_small m p 1 h r, k.0, k.1.0))

-- ---- the fields of a type

-- the reader of the type that has the byte says it
pub of_type : {b : ℕ} (m : List ℕ) (p : ℕ) (k : Asked) → b ≡ report_byte k → (r : ItemRead) → ItemAt k m p r → TypeAt b m p r
of_type m p k e (Some (r, next)) z = (k, e, z)
of_type m p k e None z = λ l d. subst (λ (o : Asked). ItemAt o m p None) (one_type k l (sym e ∙ d)) z

-- none where no type has it
pub no_such_type : {b : ℕ} (m : List ℕ) (p : ℕ) → ((k : Asked) → b ≡ report_byte k → ⊥) → TypeAt b m p None
no_such_type m p never k e = absurd (never k e)

-- a byte that is none of the ten
pub none_of : {b : ℕ} → b ≢ 0x88 → b ≢ 0x89 → b ≢ 0x8A → b ≢ 0x8B → b ≢ 0x8C → b ≢ 0x8D → b ≢ 0x8E → b ≢ 0x8F → b ≢ 0x90 → b ≢ 0xBF
    → (k : Asked) → b ≡ report_byte k → ⊥
none_of n₁ n₂ n₃ n₄ n₅ n₆ n₇ n₈ n₉ n₁₀ Groups e = n₁ e
none_of n₁ n₂ n₃ n₄ n₅ n₆ n₇ n₈ n₉ n₁₀ Individuals e = n₂ e
none_of n₁ n₂ n₃ n₄ n₅ n₆ n₇ n₈ n₉ n₁₀ Lines e = n₃ e
none_of n₁ n₂ n₃ n₄ n₅ n₆ n₇ n₈ n₉ n₁₀ Key e = n₄ e
none_of n₁ n₂ n₃ n₄ n₅ n₆ n₇ n₈ n₉ n₁₀ QuickTexts e = n₅ e
none_of n₁ n₂ n₃ n₄ n₅ n₆ n₇ n₈ n₉ n₁₀ Home e = n₆ e
none_of n₁ n₂ n₃ n₄ n₅ n₆ n₇ n₈ n₉ n₁₀ Channels e = n₇ e
none_of n₁ n₂ n₃ n₄ n₅ n₆ n₇ n₈ n₉ n₁₀ System e = n₈ e
none_of n₁ n₂ n₃ n₄ n₅ n₆ n₇ n₈ n₉ n₁₀ StatusTexts e = n₉ e
none_of n₁ n₂ n₃ n₄ n₅ n₆ n₇ n₈ n₉ n₁₀ Hash e = n₁₀ e

-- ---- a parameter

module _ (m : List ℕ) (at : ℕ) (h : Bytes m) where
  -- none where no byte is left
  pub no_first : (at + 1 ≤ length m → ⊥) → ReadAt m at None
  no_first never i next p q = never (byte_out m at h (item_byte i) (item_body i) next q).0

  module _ {N : ℕ} (byte : N ≡ be 0 (take 1 (drop at m))) (room : at + 1 ≤ length m) where
    first : be 0 (take 1 (drop at m)) ≡ N % 256
    first = omega (arith, be_small m at 1 h room)

    -- no error stands behind the type byte: the reader of its type says it
    pub by_type : {f : Bool} → FailedAt m (at + 1) f → f ≡ false → (r : ItemRead) → TypeAt (N % 256) m (at + 1) r → ReadAt m at r
    by_type w d (Some (r, next)) (k, e, (x, says, i, y)) =
        (make k x, says, i, byte_in m at h (item_byte (make k x)) (item_body (make k x)) next room (first ∙ e ∙ sym (byte_make k x)) y)
    by_type w d None never = λ i next p q. go i (view i) next p q
      where
        go : (i : Item) → View i → (next : ℕ) → InItem i → FieldsAt (item_fields i) m at next → ⊥
        go _ (known k x) next p q =
            let (r, b, y) = byte_out m at h (item_byte (make k x)) (item_body (make k x)) next q in
            never k (sym first ∙ b ∙ byte_make k x) x next p y
        go _ (other b) next p q = subst (FailedAt m (at + 1)) d w next (byte_out m at h b failed next q).2

    module _ {f : Bool} (w : FailedAt m (at + 1) f) (d : f ≡ true) where
      wrong : FieldsAt failed m (at + 1) (at + 1 + 1)
      wrong = (subst (FailedAt m (at + 1)) d w).1

      -- an error of a type that isn't supported
      pub the_error : {a : Bool} → AsksIs (N % 256) a → a ≡ false → ReadAt m at (Some (Unknown (N % 256), at + 1 + 1))
      the_error a e =
          (unknown (N % 256), refl, (omega arith, subst (AsksIs (N % 256)) e a), byte_in m at h (N % 256) failed (at + 1 + 1) room first wrong)

      -- none where the type is
      pub known_error : {a : Bool} → AsksIs (N % 256) a → a ≡ true → ReadAt m at None
      known_error a e = λ i next p q. go i (view i) next p q
        where
          go : (i : Item) → View i → (next : ℕ) → InItem i → FieldsAt (item_fields i) m at next → ⊥
          go _ (known k x) next p q =
              no_error k x [] {gs = []} (agree_at (item_body (make k x)) failed m (at + 1) next (at + 1 + 1) (byte_out m at h (item_byte (make k x)) (item_body (make k x)) next q).2 wrong)
          go _ (other b) next p q = subst (AsksIs (N % 256)) e a (subst NoType (sym (byte_out m at h b failed next q).1 ∙ first) p.1)
