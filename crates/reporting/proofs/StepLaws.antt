-- One parameter more of a report's plan. Assumes nothing.
use Rattle.lists.proofs.Kit.{ℕ, suc, ◌+◌, ◌-◌, ◌≤◌, ◌<◌, ◌≡◌, refl, sym, ap, ◌∙◌, subst, ◌≢◌, Bool, true, false, true≢false, ◌&&◌, List, [], ◌∷◌, ◌++◌, add-one, arith, length-append, ltb, leb, ltb-true, lt-ltb, leb-true, le-leb}
use Rattle.reports.specs.Cut.{fits?, item_size}
use Rattle.reports.specs.Items.{Item}
use Rattle.reports.proofs.PlanLaws.{Planned, takes_own, takes_other, opens_own, opens_other}
use Rattle.reports.proofs.SplitLaws.{and_made}
use Rattle.reporting.specs.declared.planning.Cursor.{Cursor}
use Rattle.reporting.specs.declared.planning.Walk.{Walk}
use Rattle.reporting.specs.Plans.{FitsIs, Steps}

-- ---- whether it fits

-- the test's last comparison decides
pub fits_by : (count used size room : ℕ) (r : Bool) → count < 255 → size ≤ room → leb used (room - size) ≡ r → FitsIs count used size room r
fits_by count used size room true c s e = (c, omega (arith, leb-true used (room - size) e))
fits_by count used size room false c s e = λ _ f. true≢false (sym (le-leb used (room - size) (omega arith)) ∙ e)

not_both : (a b : Bool) → (a ≡ true → b ≡ true → ⊥) → (a && b) ≡ false
not_both true true h = absurd (h refl refl)
not_both true false h = refl
not_both false b h = refl

module _ (room count used size : ℕ) (i : Item) (e : item_size i ≡ size) where
  fitting : FitsIs count used size room true → fits? item_size room 255 used count i ≡ true
  fitting (a, b) = and_made (ltb count 255) (ltb (used + item_size i) (suc room)) (lt-ltb count 255 a) (lt-ltb (used + item_size i) (suc room) (omega arith))

  over : FitsIs count used size room false → fits? item_size room 255 used count i ≡ false
  over h = not_both (ltb count 255) (ltb (used + item_size i) (suc room)) (λ a b. h (ltb-true count 255 a) (omega (arith, ltb-true (used + item_size i) (suc room) b)))

-- ---- where it goes

-- the same numbers under other names
planned_as : {room j : ℕ} {all : List (List Item)} {c d u v n k : ℕ} {own f g rest : List Item} → c ≡ d → u ≡ v → n ≡ k → f ≡ g
    → Planned item_size room 255 all j c u n own f rest → Planned item_size room 255 all j d v k own g rest
planned_as {room} {j} {all} {own = own} {rest = rest} p q r s x =
    subst (λ (z : ℕ × ℕ × ℕ × List Item). Planned item_size room 255 all j z.0 z.1 z.2 own z.3 rest) (λ i. (p i, q i, r i, s i)) x

module _ (room j size : ℕ) (here : Cursor) (w : Walk) where
  -- into message j
  pub step_own : FitsIs w.count w.used size room true → w.closed ≡ j
      → Steps room j size here w (record { closed = w.closed; used = w.used + size; count = w.count + 1; own = w.own + 1; from = w.from })
  step_own f z = record {
    grown = record { closed = omega arith; own = omega arith };
    ranked = λ p q. p;
    steps = λ all from i rest e h q. record {
      own = q.own ++ (i ∷ []);
      counted = omega (arith, length-append q.own (i ∷ []), q.counted);
      planned = planned_as refl (ap (λ n. w.used + n) e) (sym (add-one w.count)) refl
          (takes_own item_size room 255 all j i q.planned (fitting room w.count w.used size i e f) z);
    };
  }

  -- into another open message
  pub step_other : FitsIs w.count w.used size room true → w.closed ≢ j
      → Steps room j size here w (record { closed = w.closed; used = w.used + size; count = w.count + 1; own = w.own; from = w.from })
  step_other f z = record {
    grown = record { closed = omega arith; own = omega arith };
    ranked = λ p q. p;
    steps = λ all from i rest e h q. record {
      own = q.own;
      counted = q.counted;
      planned = planned_as refl (ap (λ n. w.used + n) e) (sym (add-one w.count)) refl
          (takes_other item_size room 255 all j i q.planned (fitting room w.count w.used size i e f) z);
    };
  }

  -- it is the first of message j
  pub new_own : FitsIs w.count w.used size room false → w.closed + 1 ≡ j
      → Steps room j size here w (record { closed = w.closed + 1; used = size; count = 1; own = 1; from = here })
  new_own f z = record {
    grown = record { closed = omega arith; own = omega arith };
    ranked = λ p q. q;
    steps = λ all from i rest e h q. record {
      own = i ∷ [];
      counted = refl;
      planned = planned_as (sym (add-one w.closed)) e refl (sym h)
          (opens_own item_size room 255 all j i q.planned (over room w.count w.used size i e f) (sym (add-one w.closed) ∙ z));
    };
  }

  -- of another
  pub new_other : FitsIs w.count w.used size room false → w.closed + 1 ≢ j
      → Steps room j size here w (record { closed = w.closed + 1; used = size; count = 1; own = w.own; from = w.from })
  new_other f z = record {
    grown = record { closed = omega arith; own = omega arith };
    ranked = λ p q. p;
    steps = λ all from i rest e h q. record {
      own = q.own;
      counted = q.counted;
      planned = planned_as (sym (add-one w.closed)) e refl refl
          (opens_other item_size room 255 all j i q.planned (over room w.count w.used size i e f) (λ d. z (add-one w.closed ∙ d)));
    };
  }
