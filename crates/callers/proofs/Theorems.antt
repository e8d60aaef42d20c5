-- What a caller may rely on: one answer, the row of the line that has the number, exactly. Assumes nothing.
use Rattle.lists.proofs.Kit.{ℕ, zero, suc, ◌<◌, ◌≡◌, ◌≢◌, refl, sym, ap, ◌∙◌, subst, ◌↔◌, List, [], ◌∷◌, map, Option, none, some, option_some_injective, option_none_ne_some, get_or, length, inl, inr, arith, Bool, true, false, cond, eqb, ltb, ltb-true, ltb-false}
use Rattle.lists.specs.Every.{All}
use Rattle.lists.specs.Ladder.{Answers}
use Rattle.lists.proofs.Ladder.{one_answer}
use Rattle.lists.proofs.OneToOne.{decoded}
use Rattle.counted_lists.specs.Counted.{Distinct}
use Rattle.writing.specs.Ranges.{InNumber}
use Rattle.writing.specs.Settings.{Number}
use Rattle.tables.specs.declared.limits.Limits.{Limits}
use Rattle.tables.specs.Forms.{Roomy}
use Rattle.tables.specs.Store.{StoreOf, Holds}
use Rattle.tables.specs.Tables.{Line, line_key, Tables}
use Rattle.tables.proofs.EntryCodes.{bit_one}
use Rattle.shared_texts.proofs.Forms.{layout_one, holds_store}
use Rattle.std.specs.Prelude.{Option as Maybe, Some, None, Result, Ok, Err}
use Rattle.callers.specs.declared.lookup.NoCaller.{NoCaller}
use Rattle.callers.specs.declared.lookup.NoCaller.TheVariants.{NotAStore, NotANumber}
use Rattle.callers.specs.Callers.{Told, told, Calls, ByNumber, looking_up}

-- ---- one row

-- what all have, one in a place has
at_all : {A : Type 0} (P : A → Type 0) (ls : List A) (r : ℕ) (a : A) → All P ls → get_or (map some ls) r none ≡ some a → P a
at_all P [] r a q e = absurd (option_none_ne_some a e)
at_all P (x ∷ ls) zero a q e = subst P (option_some_injective x a e) q.0
at_all P (x ∷ ls) (suc r) a q e = at_all P ls r a q.1 e

-- a place that has an entry is one of the list's
at_low : {A : Type 0} (ls : List A) (r : ℕ) (a : A) → get_or (map some ls) r none ≡ some a → r < length ls
at_low [] r a e = absurd (option_none_ne_some a e)
at_low (x ∷ ls) zero a e = omega arith
at_low (x ∷ ls) (suc r) a e = let h : r < length ls = at_low ls r a e in omega arith

-- where no two entries have one key, an entry has one place
one_place : {A K : Type 0} (key : A → K) (ls : List A) → Distinct key ls → (r s : ℕ) (a b : A) → get_or (map some ls) r none ≡ some a → get_or (map some ls) s none ≡ some b → key a ≡ key b → r ≡ s
one_place key [] d r s a b e f k = absurd (option_none_ne_some a e)
one_place key (x ∷ ls) d zero zero a b e f k = refl
one_place key (x ∷ ls) d zero (suc s) a b e f k =
    absurd (at_all (λ y. key y ≢ key x) ls s b d.0 f (sym k ∙ ap key (sym (option_some_injective x a e))))
one_place key (x ∷ ls) d (suc r) zero a b e f k = absurd (at_all (λ y. key y ≢ key x) ls r a d.0 e (k ∙ ap key (sym (option_some_injective x b f))))
one_place key (x ∷ ls) d (suc r) (suc s) a b e f k = ap suc (one_place key ls d.1 r s a b e f k)

-- lines that a caller's number is that of have one key
one_caller : (idtype : ℕ) (digits : Number) (a b : Line) → Calls idtype digits a → Calls idtype digits b → line_key a ≡ line_key b
one_caller idtype digits a b p q =
    let x = bit_one a.flags.pabx b.flags.pabx (p.0 ∙ sym q.0) in
    let n = p.1 ∙ sym q.1 in
    (λ i. record { pabx = x i; number = n i })

-- so a number has one row, or none
one_row : (t : Tables) → Distinct line_key t.lines → (idtype : ℕ) (digits : Number) (x y : Option ℕ) → ByNumber t idtype digits x → ByNumber t idtype digits y → x ≡ y
one_row t d idtype digits none none p q = refl
one_row t d idtype digits none (some s) p (b, f, k) = absurd (at_all (λ l. Calls idtype digits l → ⊥) t.lines s b p f k)
one_row t d idtype digits (some r) none (a, e, h) q = absurd (at_all (λ l. Calls idtype digits l → ⊥) t.lines r a q e h)
one_row t d idtype digits (some r) (some s) (a, e, h) (b, f, k) = ap some (one_place line_key t.lines d r s a b e f (one_caller idtype digits a b h k))

-- ---- one answer

module _ (lim : Limits) (idtype : ℕ) (digits store : List ℕ) where
  -- an answer where nothing is refused
  abbrev Foot : Told → Type 0
  Foot a = (t : Tables) × Holds lim t store × (a.number ≡ 0) × ByNumber t idtype digits a.row

  one_foot : (a b : Told) → Foot a → Foot b → a ≡ b
  one_foot a b (t, h, z, p) (u, k, y, q) =
      let same : t ≡ u = layout_one lim t u h.0 k.0 (sym h.1 ∙ k.1) in
      let r : a.row ≡ b.row = one_row u k.0.distinct idtype digits a.row b.row (subst (λ (v : Tables). ByNumber v idtype digits a.row) same p) q in
      let n : a.number ≡ b.number = z ∙ sym y in
      (λ i. record { number = n i; row = r i })

  -- one number with its row
  pub line_of_one : (a b : Told) → Answers (looking_up lim idtype digits store) a → Answers (looking_up lim idtype digits store) b → a ≡ b
  line_of_one = one_answer (looking_up lim idtype digits store) one_foot

  -- the number and the row of an answer say which case it is
  abbrev answered : Option ℕ → Result (Maybe ℕ) NoCaller
  answered none = Ok None
  answered (some r) = Ok (Some r)

  abbrev answer_of : Told → Result (Maybe ℕ) NoCaller
  answer_of a = cond (eqb a.number 0) (answered a.row) (Err (cond (eqb a.number 11) NotAStore NotANumber))

  answer_back : (a : Result (Maybe ℕ) NoCaller) → answer_of (told a) ≡ a
  answer_back (Ok (Some r)) = refl
  answer_back (Ok None) = refl
  answer_back (Err NotAStore) = refl
  answer_back (Err NotANumber) = refl

  -- LINE-OF-DETERMINED: the contract of the caller's call allows one answer of the code
  pub line_of_determined : (a b : Result (Maybe ℕ) NoCaller) → Answers (looking_up lim idtype digits store) (told a) → Answers (looking_up lim idtype digits store) (told b) → a ≡ b
  line_of_determined a b x y = decoded told answer_of answer_back a b (line_of_one (told a) (told b) x y)

  -- ---- the row

  -- a row is below the room for lines, so it fits a byte
  pub row_small : (a : Result (Maybe ℕ) NoCaller) (r : ℕ) → Answers (looking_up lim idtype digits store) (told a) → a ≡ Ok (Some r) → r < 256
  row_small a r x e = go (subst (λ (c : Result (Maybe ℕ) NoCaller). Answers (looking_up lim idtype digits store) (told c)) e x)
    where
      low : (t : Tables) → Holds lim t store → r < length t.lines → ((StoreOf lim store → ⊥) → ⊥) → (b : Bool) → ltb r 256 ≡ b → r < 256
      low t h i n true e = ltb-true r 256 e
      low t h i n false e = absurd (n (λ s. omega (arith, i, ltb-false r 256 e, s.roomy.few_lines, h.0.lines.0)))

      go : Answers (looking_up lim idtype digits store) (told (Ok (Some r))) → r < 256
      go (inl (n, d)) = let z : ◌≡◌ {A = ℕ} 0 11 = ap (λ (a : Told). a.number) d in absurd (omega arith)
      go (inr (n, inl (m, d))) = let z : ◌≡◌ {A = ℕ} 0 20 = ap (λ (a : Told). a.number) d in absurd (omega arith)
      go (inr (n, inr (m, (t, h, z, (l, f, c))))) = low t h (at_low t.lines r l f) n (ltb r 256) refl

  module _ (t : Tables) (room : Roomy lim) (h : Holds lim t store) (n : InNumber digits) (a : Told) (x : Answers (looking_up lim idtype digits store) a) where
    -- a store of tables t, and a number: the answer is at the ladder's foot
    at_foot : ByNumber t idtype digits a.row
    at_foot = go x
      where
        go : Answers (looking_up lim idtype digits store) a → ByNumber t idtype digits a.row
        go (inl (m, e)) = absurd (m (holds_store lim t store room h))
        go (inr (m, inl (k, e))) = absurd (k n)
        go (inr (m, inr (k, (u, i, z, p)))) = subst (λ (v : Tables). ByNumber v idtype digits a.row) (layout_one lim u t i.0 h.0 (sym i.1 ∙ h.1)) p

    -- CALLER-FOUND: row r is answered exactly if the line at r has that IDtype and those digits
    pub caller_found : (r : ℕ) → (a.row ≡ some r) ↔ ((l : Line) × (get_or (map some t.lines) r none ≡ some l) × Calls idtype digits l)
    caller_found r = (
      λ e. subst (ByNumber t idtype digits) e at_foot,
      λ p. one_row t h.0.distinct idtype digits a.row (some r) at_foot p,
    )

    -- CALLER-NONE: no row is answered exactly if no line has them
    pub caller_none : (a.row ≡ none) ↔ All (λ l. Calls idtype digits l → ⊥) t.lines
    caller_none = (
      λ e. subst (ByNumber t idtype digits) e at_foot,
      λ p. one_row t h.0.distinct idtype digits a.row none at_foot p,
    )
