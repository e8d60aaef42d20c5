-- A loop that applies entries in turn: those that are left, from the table that stands now, give what all give from the start. Assumes nothing.
use Rattle.std.specs.Prelude.{Option as Maybe, Some, None}
use Rattle.lists.proofs.Kit.{ℕ, ◌+◌, ◌-◌, ◌*◌, ◌≤◌, ◌<◌, ◌≡◌, refl, sym, ap, ◌∙◌, subst, subst⁻¹, List, [], ◌∷◌, Option, none, some, arith, length}
use Rattle.lists.specs.Every.{All}
use Rattle.writing.specs.Fields.{Field, widths, each}
use Rattle.writing.proofs.Ends.{Ends}
use Rattle.writing.specs.Settings.{Entry}
use Rattle.read_fields.specs.Entries.{EntryIs, EntryAt}
use Rattle.read_fields.specs.Places.{FieldsAt}
use Rattle.read_fields.specs.declared.entries.EntryPlace.{EntryPlace}
use Rattle.read_fields.proofs.Parts.{part_split}
use Rattle.read_fields.proofs.Walk.{one_part}
use Rattle.tables.specs.Apply.{in_turn, and_then}
use Rattle.tables.specs.Changing.{Changed}

-- Starts es: es are the entries of the setting; Stands es rest p: of these, rest are left at place p; Is t s: the bytes s are the table t, s₀ those at the start
module _ {A T : Type 0} (Starts : List A → Type 0) (Stands : List A → List A → ℕ → Type 0) (In : A → Type 0) (step : A → T → Option T) (Is : T → List ℕ → Type 0) (s₀ : List ℕ) where
  -- so many entries are left at p, and what all give from the start is what they give from the table of s
  pub record Left (es : List A) (start : T) (p left : ℕ) (s : List ℕ) : Type 0 where
    pub table : T
    pub rest : List A
    pub is : Is table s
    pub counted : length rest ≡ left
    pub in_range : All In rest
    pub stands : Stands es rest p
    pub same : in_turn step rest table ≡ in_turn step es start

  -- so it is for any entries of the setting and any table at the start: the loop's invariant
  abbrev pub Going : ℕ → ℕ → List ℕ → Type 0
  Going p left s = (es : List A) (start : T) → Starts es → All In es → Is start s₀ → Left es start p left s

  -- none has been applied yet
  pub going_start : (p left : ℕ) → ((es : List A) → Starts es → (length es ≡ left) × Stands es es p) → Going p left s₀
  going_start p left k es start h i is =
      let (n, z) = k es h in
      record { table = start; rest = es; is = is; counted = n; in_range = i; stands = z; same = refl }

  -- the first of those that are left
  first_left : {es : List A} {start : T} {p left : ℕ} {s : List ℕ} → 0 < left → (x : Left es start p left s) → (b : A) × (more : List A) × (x.rest ≡ b ∷ more)
  first_left l x = go x.rest refl
    where
      go : (r : List A) → x.rest ≡ r → (b : A) × (more : List A) × (x.rest ≡ b ∷ more)
      go [] e = absurd (omega (arith, x.counted, ap length e))
      go (b ∷ more) e = (b, more, e)

  -- where none that is in range stands next, none is left
  pub going_stuck : (p left : ℕ) (s : List ℕ) → 0 < left → ((es : List A) → Starts es → (b : A) (more : List A) → In b → Stands es (b ∷ more) p → ⊥)
      → Going p left s → (es : List A) (start : T) → Starts es → All In es → Is start s₀ → ⊥
  going_stuck p left s l never g es start h i is =
      let x = g es start h i is in
      let (b, more, e) = first_left l x in
      never es h b more (subst (All In) e x.in_range).0 (subst (λ (r : List A). Stands es r p) e x.stands)

  -- a stands next, and the others from q on
  module _ (p q left : ℕ) (s : List ℕ) (a : A) (l : 0 < left)
      (next : (es : List A) → Starts es → (b : A) (more : List A) → Stands es (b ∷ more) p → (b ≡ a) × Stands es more q) (g : Going p left s) where
    -- so it is the first of those that are left
    split : (es : List A) (start : T) → Starts es → (x : Left es start p left s) → (more : List A) × (x.rest ≡ a ∷ more) × Stands es more q
    split es start h x =
        let (b, more, e) = first_left l x in
        let (d, z) = next es h b more (subst (λ (r : List A). Stands es r p) e x.stands) in
        (more, e ∙ ap (λ (c : A). c ∷ more) d, z)

    -- it has been applied
    pub going_next : (t : List ℕ) → ((now : T) → Is now s → In a → (u : T) × (step a now ≡ some u) × Is u t) → Going q (left - 1) t
    going_next t applied es start h i is =
        let x = g es start h i is in
        let (more, e, z) = split es start h x in
        let j = subst (All In) e x.in_range in
        let (u, d, isu) = applied x.table x.is j.0 in
        record {
          table = u;
          rest = more;
          is = isu;
          counted = omega (arith, x.counted, ap length e);
          in_range = j.1;
          stands = z;
          same = sym (ap (λ (o : Option T). and_then o (in_turn step more)) d) ∙ sym (ap (λ (r : List A). in_turn step r x.table) e) ∙ x.same;
        }

    -- it had no room, so the setting has none
    pub going_full : ((now : T) → Is now s → In a → step a now ≡ none) → (es : List A) (start : T) → Starts es → All In es → Is start s₀ → in_turn step es start ≡ none
    going_full full es start h i is =
        let x = g es start h i is in
        let (more, e, z) = split es start h x in
        sym x.same ∙ ap (λ (r : List A). in_turn step r x.table) e
        ∙ ap (λ (o : Option T). and_then o (in_turn step more)) (full x.table x.is (subst (All In) e x.in_range).0)

  -- all have been applied
  pub going_end : (p left : ℕ) (s : List ℕ) → left ≤ 0 → Going p left s → (es : List A) (start : T) → Starts es → All In es → Is start s₀
      → (u : T) × (in_turn step es start ≡ some u) × Is u s
  going_end p left s l g es start h i is = let x = g es start h i is in go x x.rest refl
    where
      go : (x : Left es start p left s) (r : List A) → x.rest ≡ r → (u : T) × (in_turn step es start ≡ some u) × Is u s
      go x [] e = (x.table, sym x.same ∙ ap (λ (r : List A). in_turn step r x.table) e, x.is)
      go x (b ∷ more) e = absurd (omega (arith, x.counted, ap length e))

-- ---- entries that say where they end and are whole bytes, as line contacts, quick texts and status texts do

module _ {A : Type 0} (f : A → List Field) (m : List ℕ) where
  -- those that are left stand at the place, up to some end
  abbrev pub Standing : List A → List A → ℕ → Type 0
  Standing es rest at = (end : ℕ) × FieldsAt (each f rest) m at end

  -- so many stand at the place
  abbrev pub Starting : ℕ → ℕ → List A → Type 0
  Starting at count es = (length es ≡ count) × Standing es es at

  module _ (wide : (a : A) → (n : ℕ) × (widths (f a) ≡ 8 * n)) (at : ℕ) where
    -- the first that is left stands next
    first_stands : (es : List A) (b : A) (more : List A) → Standing es (b ∷ more) at → (q : ℕ) × FieldsAt (f b) m at q × Standing es more q
    first_stands es b more (end, x) =
        let (n, e) = wide b in
        let (y, z) = part_split (f b) (each f more) m at n end e x in
        (at + n, y, (end, z))

    -- where an entry stands next it is that one
    next_entry : Ends f → (a : A) (q : ℕ) → FieldsAt (f a) m at q → (es : List A) (b : A) (more : List A) → Standing es (b ∷ more) at → (b ≡ a) × Standing es more q
    next_entry ends a q x es b more y =
        let (r, z, w) = first_stands es b more y in
        let (e, d) = one_part f ends a b m at q r x z in
        (sym e, subst⁻¹ (Standing es more) d w)

-- a loop over count entries that stand at `at` has come to p with left of them left, and made s of s₀
pub record Applying {A T : Type 0} (f : A → List Field) (ends : Ends f) (wide : (a : A) → (n : ℕ) × (widths (f a) ≡ 8 * n)) (In : A → Type 0)
    (step : A → T → Option T) (Is : T → List ℕ → Type 0) (m s₀ : List ℕ) (at count p left : ℕ) (s : List ℕ) : Type 0 where
  pub going : Going (Starting f m at count) (Standing f m) In step Is s₀ p left s

module _ {A T : Type 0} {f : A → List Field} {ends : Ends f} {wide : (a : A) → (n : ℕ) × (widths (f a) ≡ 8 * n)} {In : A → Type 0} {step : A → T → Option T}
    {Is : T → List ℕ → Type 0} {m s₀ : List ℕ} where
  -- it begins
  pub applying_start : {at count : ℕ} → Applying f ends wide In step Is m s₀ at count at count s₀
  applying_start {at} {count} = record { going = going_start (Starting f m at count) (Standing f m) In step Is s₀ at count (λ es h. h) }

  module _ {at count p left : ℕ} {s : List ℕ} (g : Applying f ends wide In step Is m s₀ at count p left s) where
    module _ (l : 0 < left) (a : A) (q : ℕ) (x : FieldsAt (f a) m p q) where
      -- the entry a, which stands next, has been applied
      pub applying_next : (t : List ℕ) → (In a → Changed Is (step a) s t) → Applying f ends wide In step Is m s₀ at count q (left - 1) t
      applying_next t applied = record {
        going = going_next (Starting f m at count) (Standing f m) In step Is s₀ p q left s a l (λ es h. next_entry f m wide p ends a q x es) g.going t
            (λ now is i. applied i now is);
      }

      -- it had no room, so the setting has none
      pub applying_full : (In a → (now : T) → Is now s → step a now ≡ none) → (es : List A) (start : T) → Starting f m at count es → All In es → Is start s₀ → in_turn step es start ≡ none
      applying_full full =
          going_full (Starting f m at count) (Standing f m) In step Is s₀ p q left s a l (λ es h. next_entry f m wide p ends a q x es) g.going
          (λ now is i. full i now is)

    -- where none that is in range stands next, none is left
    pub applying_stuck : 0 < left → ((a : A) (q : ℕ) → In a → FieldsAt (f a) m p q → ⊥) → (es : List A) (start : T) → Starting f m at count es → All In es → Is start s₀ → ⊥
    applying_stuck l never =
        going_stuck (Starting f m at count) (Standing f m) In step Is s₀ p left s l
        (λ es h b more i y. let (r, z, w) = first_stands f m wide p es b more y in never b r i z) g.going

    -- all have been applied
    pub applying_end : left ≤ 0 → (es : List A) (start : T) → Starting f m at count es → All In es → Is start s₀ → (u : T) × (in_turn step es start ≡ some u) × Is u s
    applying_end l = going_end (Starting f m at count) (Standing f m) In step Is s₀ p left s l g.going

-- ---- entries that were read as an index and a text, of a table that has room for all

module _ {T : Type 0} {f : Entry → List Field} {ends : Ends f} {wide : (e : Entry) → (n : ℕ) × (widths (f e) ≡ 8 * n)} {In : Entry → Type 0} {step : Entry → T → Option T}
    {Is : T → List ℕ → Type 0} {m s₀ : List ℕ} {at count p left : ℕ} {s : List ℕ} (g : Applying f ends wide In step Is m s₀ at count p left s)
    (InRead : Entry → Type 0) {r : Maybe (EntryPlace × ℕ)} (read : EntryAt f InRead m p r) (l : 0 < left) where
  -- the entry that was read has been applied
  pub entry_applied : (a : EntryPlace) (q : ℕ) (t : List ℕ) → r ≡ Some (a, q)
      → ((e : Entry) → EntryIs m a e → FieldsAt (f e) m p q → In e → Changed Is (step e) s t) → Applying f ends wide In step Is m s₀ at count q (left - 1) t
  entry_applied a q t e applied =
      let (x, i, is, z) = subst (EntryAt f InRead m p) e read in
      applying_next g l x q z t (λ j. applied x is z j)

  -- none was, so none was left
  pub entry_missing : ((e : Entry) → In e → InRead e) → r ≡ None → (es : List Entry) (start : T) → Starting f m at count es → All In es → Is start s₀ → ⊥
  entry_missing in_read e = applying_stuck g l (λ x q i y. subst (EntryAt f InRead m p) e read x q (in_read x i) y)
