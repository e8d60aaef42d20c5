-- Texts in one area with those of one table changed: what stands before and behind them stays, and comes together again. Assumes nothing.
use Rattle.lists.proofs.Kit.{ℕ, zero, suc, ◌+◌, ◌-◌, ◌*◌, ◌≤◌, ◌<◌, ◌≡◌, sym, ap, ap₂, ◌∙◌, List, [], ◌∷◌, ◌++◌, map, append_assoc, Option, not-suc-le-zero, le_of_suc-le-suc, arith, mid_of, length, take, drop, get_or, set, set-get_or, replicate, length-append, take_at}
use Rattle.slots.specs.Slots.{flat, pad}
use Rattle.slots.proofs.Parts.{get_part}
use Rattle.writing.specs.Settings.{Text}
use Rattle.tables.specs.Texts.{present, texts_in, units_of, unit_bytes, area}
use Rattle.shared_texts.specs.declared.Run.{Run}
use Rattle.shared_texts.specs.Moves.{gathered_texts}
use Rattle.shared_texts.specs.Shared.{slots_in, no_run}
use Rattle.shared_texts.proofs.Cuts.{texts_length, area_is}
use Rattle.shared_texts.proofs.RunLaws.{AllMoved, texts_append}

-- the bytes of texts, one after another
abbrev pub bytes_of : List Text → List ℕ
bytes_of ts = flat (map unit_bytes ts)

-- TEXTS-SET: with those of table n changed
pub texts_set : (tables : List (List (Option Text))) (n : ℕ) (os : List (Option Text)) → n < length tables
    → bytes_of (texts_in (set tables n os)) ≡ bytes_of (texts_in (take n tables)) ++ (bytes_of (present os) ++ bytes_of (texts_in (drop (suc n) tables)))
texts_set [] n os h = absurd (not-suc-le-zero h)
texts_set (o ∷ tables) zero os h = texts_append (present os) (texts_in tables)
texts_set (o ∷ tables) (suc n) os h =
    let f : List ℕ = bytes_of (texts_in (take n tables)) in
    let g : List ℕ = bytes_of (present os) ++ bytes_of (texts_in (drop (suc n) tables)) in
    texts_append (present o) (texts_in (set tables n os))
    ∙ ap (λ (l : List ℕ). bytes_of (present o) ++ l) (texts_set tables n os (le_of_suc-le-suc h))
    ∙ sym (append_assoc (bytes_of (present o)) f g)
    ∙ ap (λ (l : List ℕ). l ++ g) (sym (texts_append (present o) (texts_in (take n tables))))

-- and as they are
texts_split : (tables : List (List (Option Text))) (n : ℕ) → n < length tables
    → bytes_of (texts_in tables) ≡ bytes_of (texts_in (take n tables)) ++ (bytes_of (present (get_or tables n [])) ++ bytes_of (texts_in (drop (suc n) tables)))
texts_split tables n h = ap (λ (x : List (List (Option Text))). bytes_of (texts_in x)) (sym (set-get_or tables n [])) ∙ texts_set tables n (get_or tables n []) h

-- what stands in f, g and h, one behind another, with z behind them
runs_read : (f g h z : List ℕ) (i j n : ℕ) → length f ≡ i → length g + i ≡ j → length h ≡ n → (take i ((f ++ (g ++ h)) ++ z) ≡ f) × (mid_of j n ((f ++ (g ++ h)) ++ z) ≡ h)
runs_read f g h z i j n a b c =
    let e : (f ++ (g ++ h)) ++ z ≡ f ++ (g ++ (h ++ z)) = simp append_assoc in
    let d : (f ++ (g ++ h)) ++ z ≡ (f ++ g) ++ (h ++ z) = simp append_assoc in
    (ap (take i) e ∙ take_at f (g ++ (h ++ z)) i a, ap (mid_of j n) d ∙ get_part (f ++ g) h z j n (omega (arith, length-append f g)) c)

module _ (a : ℕ) (tables : List (List (Option Text))) (n : ℕ) (os : List (Option Text)) (h : n < length tables) (place behind total : ℕ) (p : place ≡ 2 * units_of (texts_in (take n tables)))
    (q : behind ≡ place + 2 * units_of (present (get_or tables n []))) (r : total ≡ 2 * units_of (texts_in tables)) where
  -- how many bytes stand behind the table's texts
  rest_long : length (bytes_of (texts_in (drop (suc n) tables))) ≡ total - behind
  rest_long =
      let f : List ℕ = bytes_of (texts_in (take n tables)) in
      let g : List ℕ = bytes_of (present (get_or tables n [])) in
      let z : List ℕ = bytes_of (texts_in (drop (suc n) tables)) in
      omega (arith, ap length (texts_split tables n h), length-append f (g ++ z), length-append g z, texts_length (texts_in (take n tables)), texts_length (present (get_or tables n [])), texts_length (texts_in tables))

  -- AREA-SET: the texts before and behind, with the table's new ones between, are the area with the table changed
  pub area_set : total ≤ a → pad 0 a (take place (area a (texts_in tables)) ++ (bytes_of (present os) ++ mid_of behind (total - behind) (area a (texts_in tables)))) ≡ area a (texts_in (set tables n os))
  area_set room =
      let f : List ℕ = bytes_of (texts_in (take n tables)) in
      let g : List ℕ = bytes_of (present (get_or tables n [])) in
      let z : List ℕ = bytes_of (texts_in (drop (suc n) tables)) in
      let y : List ℕ = replicate (a - 2 * units_of (texts_in tables)) 0 in
      let e : area a (texts_in tables) ≡ (f ++ (g ++ z)) ++ y = area_is a (texts_in tables) (omega arith) ∙ ap (λ (l : List ℕ). l ++ y) (texts_split tables n h) in
      let (b, c) = runs_read f g z y place behind (total - behind) (omega (arith, texts_length (texts_in (take n tables)))) (omega (arith, texts_length (present (get_or tables n [])))) rest_long in
      ap₂ (λ (l m : List ℕ). pad 0 a (l ++ (bytes_of (present os) ++ m))) (ap (take place) e ∙ b) (ap (mid_of behind (total - behind)) e ∙ c)
      ∙ ap (pad 0 a) (sym (texts_set tables n os h))

  -- and take as many bytes together
  pub sum_set : place + 2 * units_of (present os) + (total - behind) ≡ 2 * units_of (texts_in (set tables n os))
  sum_set =
      let f : List ℕ = bytes_of (texts_in (take n tables)) in
      let g : List ℕ = bytes_of (present os) in
      let z : List ℕ = bytes_of (texts_in (drop (suc n) tables)) in
      omega (arith, ap length (texts_set tables n os h), length-append f (g ++ z), length-append g z, texts_length (texts_in (take n tables)), texts_length (present os), texts_length (texts_in (set tables n os)), rest_long)

-- ---- of a table's slots

module _ (s w : List ℕ) where
  -- RUN-GATHERED: a table's texts, gathered from its slots
  pub run_gathered : (runs : List Run) (tables : List (List (Option Text))) → AllMoved s w runs tables → (k : ℕ) → k < length runs
      → gathered_texts (get_or runs k no_run).own (get_or runs k no_run).room (get_or runs k no_run).many (slots_in w (get_or runs k no_run)) ≡ bytes_of (present (get_or tables k []))
  run_gathered [] tables c k h = absurd (not-suc-le-zero h)
  run_gathered (x ∷ runs) [] c k h = absurd c
  run_gathered (x ∷ runs) (os ∷ tables) c zero h = c.0.texts
  run_gathered (x ∷ runs) (os ∷ tables) c (suc k) h = run_gathered runs tables c.1 k (le_of_suc-le-suc h)

  -- it has no more rows than places
  pub run_few : (runs : List Run) (tables : List (List (Option Text))) → AllMoved s w runs tables → (k : ℕ) → k < length runs → length (get_or tables k []) ≤ (get_or runs k no_run).many
  run_few [] tables c k h = absurd (not-suc-le-zero h)
  run_few (x ∷ runs) [] c k h = absurd c
  run_few (x ∷ runs) (os ∷ tables) c zero h = c.0.few
  run_few (x ∷ runs) (os ∷ tables) c (suc k) h = run_few runs tables c.1 k (le_of_suc-le-suc h)
