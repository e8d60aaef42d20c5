-- Indexed tables: a place changed as its slot is, and a table emptied to be replaced. Assumes nothing.
use Rattle.std.specs.Prelude.{Option as Maybe, Some, None}
use Rattle.read_fields.specs.declared.entries.EntryPlace.{EntryPlace}
use Rattle.lists.proofs.Kit.{ℕ, ◌+◌, ◌-◌, ◌*◌, ◌≤◌, ◌<◌, ◌≡◌, ap, sym, ◌∙◌, subst, subst⁻¹, List, [], ◌++◌, Option, none, arith, put_mid, mid_of, length, set, get_or, take, drop, replicate, length-replicate}
use Rattle.lists.specs.Every.{All}
use Rattle.lists.proofs.Every.{all_get}
use Rattle.slots.specs.Slots.{slot, Present, Placed}
use Rattle.slots.proofs.Tables.{place_read, place_written, places_length, places_nil, all_front, front_nil}
use Rattle.writing.specs.declared.Operation.{Operation}
use Rattle.writing.specs.Fields.{Field, widths, each}
use Rattle.writing.specs.Settings.{Entry}
use Rattle.writing.proofs.Ends.{Ends}
use Rattle.read_fields.specs.Entries.{EntryAt}
use Rattle.settings.specs.declared.settings.Entries.{Entries}
use Rattle.tables.specs.Apply.{in_turn, start_from}
use Rattle.tables.specs.Changing.{Changed}
use Rattle.tables.proofs.EntryWalk.{Starting, Applying, applying_end, entry_missing}
use Rattle.tables.proofs.ReplaceLaws.{table_started}

module _ {A : Type 0} (P : A → Type 0) (w : ℕ) (f : A → List ℕ) (long : (a : A) → length (f a) ≡ w) (n : ℕ) (os : List (Option A)) (s : List ℕ) (t : Placed P w f n os s) where
  -- place k, changed as its slot is
  pub place_changed : (k : ℕ) → k < n → (change : Option A → Option A) (y u : List ℕ) → u ≡ take (k * w) s ++ (y ++ drop w (drop (k * w) s))
      → ((o : Option A) → Present P o → take w (drop (k * w) s) ≡ slot w f o → Present P (change o) × (y ≡ slot w f (change o)))
      → Placed P w f n (set os k (change (get_or os k none))) u
  place_changed k h change y u others c =
      let e : k * w + w - k * w ≡ w = omega arith in
      let here : take w (drop (k * w) s) ≡ slot w f (get_or os k none) = subst (λ (i : ℕ). mid_of (k * w) i s ≡ slot w f (get_or os k none)) e (place_read P w f long n os s t k h) in
      let (p, d) = c (get_or os k none) (all_get (Present P) os k none t.each (omega (arith, t.many))) here in
      subst⁻¹ (Placed P w f n (set os k (change (get_or os k none)))) others
      (subst (λ (i : ℕ). Placed P w f n (set os k (change (get_or os k none))) (put_mid (k * w) i s y)) e (place_written P w f long n os s t k h (change (get_or os k none)) y p d))

  -- as many zeros as the table has bytes are the empty table
  pub place_emptied : Placed P w f n (replicate n none) (replicate (length s) 0)
  place_emptied = record {
    many = length-replicate n none;
    each = subst (All (Present P)) (front_nil n) (all_front P n [] tt);
    bytes = ap (λ (i : ℕ). replicate i 0) (ap length t.bytes ∙ places_length w f long os ∙ ap (λ (i : ℕ). i * w) t.many) ∙ sym (places_nil w f n);
  }

  -- emptied where it is to be replaced
  pub place_started : (o : Operation) (y : List ℕ) → y ≡ start_from o (replicate (length s) 0) s → Placed P w f n (start_from o (replicate n none) os) y
  place_started o y e = table_started (Placed P w f n) (replicate n none) os s y o e place_emptied t

-- ---- a loop that applies entries to an indexed table, which was emptied where it is to be replaced

module _ {A : Type 0} (P : A → Type 0) (w : ℕ) (code : A → List ℕ) (long : (a : A) → length (code a) ≡ w) (n : ℕ) {f : Entry → List Field} {ends : Ends f}
    {wide : (e : Entry) → (n : ℕ) × (widths (f e) ≡ 8 * n)} {In : Entry → Type 0} {step : Entry → List (Option A) → Option (List (Option A))} {m s₀ : List ℕ} (entries : Entries)
    {p left : ℕ} {s : List ℕ} (g : Applying f ends wide In step (Placed P w code n) m s₀ entries.start entries.count p left s) (o : Operation) (was : List ℕ)
    (started : s₀ ≡ start_from o (replicate (length was) 0) was) (es : List Entry) (h : Starting f m entries.start entries.count es) (i : All In es) where
  -- all have been applied
  pub placed_done : left ≤ 0 → Changed (Placed P w code n) (λ os. in_turn step es (start_from o (replicate n none) os)) was s
  placed_done l os is = applying_end g l es _ h i (place_started P w code long n os was is o s₀ started)

  -- none could be read where one is left, so they are not the setting's, and nothing was promised
  pub placed_missing : (InRead : Entry → Type 0) → ((e : Entry) → In e → InRead e) → {r : Maybe (EntryPlace × ℕ)} → EntryAt f InRead m p r → r ≡ None → 0 < left
      → (t : List ℕ) → Changed (Placed P w code n) (λ os. in_turn step es (start_from o (replicate n none) os)) was t
  placed_missing InRead in_read read e l t os is =
      absurd (entry_missing g InRead read l in_read e es _ h i (place_started P w code long n os was is o s₀ started))
