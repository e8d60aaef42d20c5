-- The numbers that are kept of each table, and those after one table changed. Assumes nothing.
use Rattle.lists.proofs.Kit.{ℕ, ◌+◌, ◌*◌, ◌≤◌, ◌<◌, ◌≡◌, ◌≢◌, refl, sym, ap, ◌∙◌, subst, List, Bool, true, false, cond, some, ltb, eqb-false, arith, length, get_or, set, length-set, get_or-set_same, get_or-set_other}
use Rattle.writing.specs.declared.Kind.{Kind}
use Rattle.writing.specs.declared.Kind.TheVariants.{GroupContacts, IndividualContacts, Lines, Key, QuickTexts, Home, Channels, System, StatusTexts, Group, Individual, LineSlot, Last}
use Rattle.writing.specs.Settings.{Setting, kind}
use Rattle.writing.specs.Writing.{type_byte}
use Rattle.tables.specs.declared.limits.Limits.{Limits}
use Rattle.tables.specs.Apply.{change, own_after}
use Rattle.tables.specs.Owns.{Own, own, only, put_own}
use Rattle.tables.specs.Tables.{Tables}
use Rattle.tables.specs.Texts.{text_size, text_sum}
use Rattle.tables.proofs.Owns.{same_kind, own_other}
use Rattle.tables.proofs.RoomSentences.{came}
use Rattle.events.specs.Sums.{many}
use Rattle.plain_look.specs.Looking.{kind_number}
use Rattle.plain_judge.specs.Judging.{Weights}

-- ---- kinds by number

-- there are thirteen
pub number_small : (k : Kind) → kind_number k < 13
number_small GroupContacts = omega arith
number_small IndividualContacts = omega arith
number_small Lines = omega arith
number_small Key = omega arith
number_small QuickTexts = omega arith
number_small Home = omega arith
number_small Channels = omega arith
number_small System = omega arith
number_small StatusTexts = omega arith
number_small Group = omega arith
number_small Individual = omega arith
number_small LineSlot = omega arith
number_small Last = omega arith

-- the type byte, by number
abbrev byte_of : ℕ → ℕ
byte_of n = cond (ltb n 12) (200 + n) 255

-- it is
number_byte : (k : Kind) → type_byte k ≡ byte_of (kind_number k)
number_byte GroupContacts = refl
number_byte IndividualContacts = refl
number_byte Lines = refl
number_byte Key = refl
number_byte QuickTexts = refl
number_byte Home = refl
number_byte Channels = refl
number_byte System = refl
number_byte StatusTexts = refl
number_byte Group = refl
number_byte Individual = refl
number_byte LineSlot = refl
number_byte Last = refl

-- another kind has another number
other_number : (k j : Kind) → only k j ≡ false → kind_number j ≢ kind_number k
other_number k j h e = eqb-false (type_byte k) (type_byte j) h (number_byte k ∙ ap byte_of (sym e) ∙ sym (number_byte j))

-- ---- three numbers put

-- two of the table with number k, and the sum
abbrev pub put_three : List ℕ → (k e b sum : ℕ) → List ℕ
put_three ws k e b sum = set (set (set ws (2 * k) e) (2 * k + 1) b) 26 sum

module _ (ws : List ℕ) (k e b sum : ℕ) (all : length ws ≡ 27) (small : k < 13) where
  -- no number more
  three_length : length (put_three ws k e b sum) ≡ 27
  three_length = simp length-set all

  -- how many there are
  three_entries : get_or (put_three ws k e b sum) (2 * k) 0 ≡ e
  three_entries =
      get_or-set_other (set (set ws (2 * k) e) (2 * k + 1) b) 26 (2 * k) sum 0 (λ h. omega arith)
      ∙ get_or-set_other (set ws (2 * k) e) (2 * k + 1) (2 * k) b 0 (λ h. omega arith)
      ∙ get_or-set_same ws (2 * k) e 0 (omega arith)

  -- the bytes
  three_bytes : get_or (put_three ws k e b sum) (2 * k + 1) 0 ≡ b
  three_bytes =
      get_or-set_other (set (set ws (2 * k) e) (2 * k + 1) b) 26 (2 * k + 1) sum 0 (λ h. omega arith)
      ∙ get_or-set_same (set ws (2 * k) e) (2 * k + 1) b 0 (omega (arith, length-set ws (2 * k) e))

  -- and the sum
  three_sum : get_or (put_three ws k e b sum) 26 0 ≡ sum
  three_sum = get_or-set_same (set (set ws (2 * k) e) (2 * k + 1) b) 26 sum 0 (omega (arith, length-set (set ws (2 * k) e) (2 * k + 1) b, length-set ws (2 * k) e))

  -- those of another kind stay
  three_other : (j : ℕ) → j ≢ 2 * k → j ≢ 2 * k + 1 → j ≢ 26 → get_or (put_three ws k e b sum) j 0 ≡ get_or ws j 0
  three_other j x y z =
      get_or-set_other (set (set ws (2 * k) e) (2 * k + 1) b) 26 j sum 0 z
      ∙ get_or-set_other (set ws (2 * k) e) (2 * k + 1) j b 0 y
      ∙ get_or-set_other ws (2 * k) j e 0 x

-- ---- one table changed

-- a setting leaves every table but its own
others_same : (lim : Limits) (s : Setting) (t u : Tables) (j : Kind) → change lim s t ≡ some u → only (kind s) j ≡ false → own j u ≡ own j t
others_same lim s t u j e h =
    let (x, p, q) = came (put_own (kind s) t) (own_after lim s (own (kind s) t)) u e in
    sym (ap (own j) q) ∙ own_other (kind s) j t x h

module _ (lim : Limits) (s : Setting) (t u : Tables) (c : change lim s t ≡ some u) (ws : List ℕ) (w : Weights ws t) (e b sum : ℕ)
    (entries : e ≡ many (kind s) (own (kind s) u)) (bytes : b ≡ text_size (kind s) (own (kind s) u))
  where
    -- the number of its kind
    abbrev k : ℕ
    k = kind_number (kind s)

    -- the numbers after it
    abbrev after : List ℕ
    after = put_three ws k e b sum

    -- a number that is kept of each table, at a place that is its own
    kept_after : (f : (j : Kind) → Own j → ℕ) (place : ℕ → ℕ) → ((i : ℕ) → i ≢ k → i < 13 → (place i ≢ 2 * k) × (place i ≢ 2 * k + 1) × (place i ≢ 26))
        → get_or after (place k) 0 ≡ f (kind s) (own (kind s) u) → ((j : Kind) → get_or ws (place (kind_number j)) 0 ≡ f j (own j t))
        → (j : Kind) → get_or after (place (kind_number j)) 0 ≡ f j (own j u)
    kept_after f place away mine others j = go (only (kind s) j) refl
      where
        go : (o : Bool) → only (kind s) j ≡ o → get_or after (place (kind_number j)) 0 ≡ f j (own j u)
        go true h = subst (λ (i : Kind). get_or after (place (kind_number i)) 0 ≡ f i (own i u)) (same_kind (kind s) j h) mine
        go false h =
            let (x, y, z) = away (kind_number j) (other_number (kind s) j h) (number_small j) in
            three_other ws k e b sum w.all (number_small (kind s)) (place (kind_number j)) x y z ∙ others j ∙ ap (f j) (sym (others_same lim s t u j c h))

    -- WEIGHTS-PUT: the numbers of the table that a setting changed, and the sum, put in their places
    pub weights_put : sum ≡ text_sum u → text_sum u ≤ 4096 → Weights after u
    weights_put summed room = record {
      all = three_length ws k e b sum w.all (number_small (kind s));
      entries = kept_after many (λ i. 2 * i) (λ i other small. (λ x. other (omega arith), λ x. omega arith, λ x. omega arith)) (three_entries ws k e b sum w.all (number_small (kind s)) ∙ entries) w.entries;
      bytes = kept_after text_size (λ i. 2 * i + 1) (λ i other small. (λ x. omega arith, λ x. other (omega arith), λ x. omega arith)) (three_bytes ws k e b sum w.all (number_small (kind s)) ∙ bytes) w.bytes;
      sum = three_sum ws k e b sum w.all (number_small (kind s)) ∙ summed;
      room = room;
    }
