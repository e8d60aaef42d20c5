-- What was found in a row of an area is what stands there. Assumes nothing.
use Rattle.lists.proofs.Kit.{ℕ, ◌≡◌, refl, sym, ap, ap₂, ◌∙◌, subst, subst⁻¹, ◌≢◌, true, false, List, [], ◌∷◌, Option, none, some, arith, length}
use mathlib.Core.Option.{map}
use denote.Enum.Declared.{tag_of}
use types.Run.{OneOf}
use Rattle.lists.specs.Every.{All}
use Rattle.writing.specs.Settings.{Text}
use Rattle.tables.specs.Tables.{Tables}
use Rattle.events.specs.Deeds.{Seen}
use Rattle.events.specs.Deeds as D
use Rattle.events.specs.Knowing.{Shown, shown_of, row_seen}
use Rattle.read_deeds.specs.ReadDeeds.{TextSeen}
use Rattle.std.specs.declared.option.Option.{Option as Maybe}
use Rattle.read_deeds.specs.declared.deeds.Put.{Put}
use Rattle.plain_look.specs.Looking.{SeenIs}
use Rattle.screen.specs.declared.rows.Refusal.TheVariants.{Absent}
use Rattle.screen.specs.declared.rows.Row.{Row}
use Rattle.screen.specs.Rows.{Caption, text, line, group, individual, caption, text_of, Displays, stored}
use Rattle.screen.specs.contracts.rows.Row.{the_type}
use Rattle.screen.proofs.EntryLaws.{kind_at, kind_of}
use Rattle.screen.proofs.NameLaws.{at_case}
use Rattle.plain_rows.specs.declared.names.Name.TheVariants.{Text as TextAt, Line as LineNumber, Group as GroupNumber, Individual as IndividualNumber}
use Rattle.std.specs.declared.option.Option.TheVariants.{Some, None}
use Rattle.std.specs.declared.result.Result.TheVariants.{Ok, Err}
use Rattle.plain_rows.specs.Naming.{Spot, SpotSeen, Naming, AddressOf, Named, NameFound}
use Rattle.plain_rows.proofs.AreaTables.{area_allowed}
use Rattle.plain_rows.proofs.CaptionLaws.{NamedBy, Captions, Captioned, shown_at, kind_in, row_captioned}

-- ---- what was found

-- what was found is what the deeds have
abbrev Matches : List ℕ → Maybe Put → Option Shown → Type 0
Matches s None none = Unit {0}
Matches s None (some h) = ⊥
Matches s (Some r) none = ⊥
Matches s (Some r) (some h) = (r.name ≡ h.name) × (r.hidden ≡ h.hidden) × TextSeen s r.text h.text

seen_matches : (s : List ℕ) (r : Maybe Put) (o : Option Seen) → SeenIs s r o → Matches s r (map shown_of o)
seen_matches s None none x = tt
seen_matches s None (some a) x = absurd x
seen_matches s (Some r) none x = absurd x
seen_matches s (Some r) (some a) x = (x.name, x.hidden, x.text)

spot_matches : (s : List ℕ) (ds : List D.Deed) (r : Maybe Put) (p : Spot) → SpotSeen s p ds r → Matches s r (shown_at ds p)
spot_matches s ds r (Some p) x = seen_matches s r (row_seen p.0 ds p.1) x
spot_matches s ds r None x = subst⁻¹ (λ (y : Maybe Put). Matches s y none) x tt

-- a text that is not empty is shown
shows_text : (c : Caption) → length (text_of c) ≢ 0 → Displays c (stored (text_of c))
shows_text (text us) n = refl
shows_text (line [] ds) n = absurd (n refl)
shows_text (line (u ∷ us) ds) n = refl
shows_text (group [] a) n = absurd (n refl)
shows_text (group (u ∷ us) a) n = refl
shows_text (individual [] a) n = absurd (n refl)
shows_text (individual (u ∷ us) a) n = refl

-- a text of no units is empty
no_units : (us : Text) → length us ≡ 0 → us ≡ []
no_units [] e = refl
no_units (u ∷ us) e = absurd (omega arith)

-- ---- names

module _ (row : Row) (found : Maybe Put) where
  -- from what the deeds have to a name, by its case
  name_by : (case : Maybe Put) → found ≡ case → (r : Naming) → ((t : Tables) (s : List ℕ) (o : Option Shown) → Captioned (caption t row) (kind_in row) o → Matches s case o → Named t s row r) → NameFound row found r
  name_by case e r h s log t ds p area tells is seen =
      h t s (shown_at ds p) (row_captioned ds t tells (area_allowed s log t area) row p is) (subst (λ (x : Maybe Put). Matches s x (shown_at ds p)) e (spot_matches s ds found p seen))

  -- nothing was found
  pub named_absent : found ≡ None → NameFound row found (Err Absent)
  named_absent e = name_by None e (Err Absent) by
    where
      by : (t : Tables) (s : List ℕ) (o : Option Shown) → Captioned (caption t row) (kind_in row) o → Matches s None o → caption t row ≡ none
      by t s none c m = c
      by t s (some h) c m = absurd m

  module _ (put : Put) (there : found ≡ Some put) where
    -- what was found has no row
    pub named_hidden : put.hidden ≡ true → NameFound row found (Err Absent)
    named_hidden e = name_by (Some put) there (Err Absent) by
      where
        by : (t : Tables) (s : List ℕ) (o : Option Shown) → Captioned (caption t row) (kind_in row) o → Matches s (Some put) o → caption t row ≡ none
        by t s none c m = absurd m
        by t s (some h) c m = c.0 (sym m.1 ∙ e)

    module _ (plain : put.hidden ≡ false) where
      -- what was found has a row
      named_by : (r : Naming) → ((t : Tables) (s : List ℕ) (h : Shown) → Captions (caption t row) (kind_in row) h → put.name ≡ h.name → TextSeen s put.text h.text → Named t s row r) → NameFound row found r
      named_by r f = name_by (Some put) there r by
        where
          by : (t : Tables) (s : List ℕ) (o : Option Shown) → Captioned (caption t row) (kind_in row) o → Matches s (Some put) o → Named t s row r
          by t s none c m = absurd m
          by t s (some h) c m = f t s h (c.1 (sym m.1 ∙ plain)) m.0 m.2

      -- a text
      pub named_text : put.text.units ≢ 0 → NameFound row found (Ok (TextAt put.text))
      named_text n = named_by (Ok (TextAt put.text)) (λ t s h c e x.
          let d = c.row_is in
          (d, c.there, shows_text d (λ q. n (x.units ∙ ap length (sym c.same_text) ∙ q)), subst (TextSeen s put.text) (sym c.same_text) x, c.short))

      module _ (zero_units : put.text.units ≡ 0) where
        -- what the row names, by its kind
        named_kind : (r : Naming) (k : ℕ) (ks : List ℕ) → All (λ i. kind_at i ≡ k) ks → OneOf ks (tag_of the_type row)
            → ((t : Tables) (s : List ℕ) (d : Caption) → k ≡ kind_of d → caption t row ≡ some d → text_of d ≡ [] → NamedBy d put.name → TextSeen s put.text (text_of d) → Named t s row r)
            → NameFound row found r
        named_kind r k ks same one by = named_by r (λ t s h c e x.
            let d = c.row_is in
            by t s d (sym (at_case kind_at k ks (tag_of the_type row) same one) ∙ c.of_kind) c.there (no_units (text_of d) (ap length c.same_text ∙ sym x.units ∙ zero_units)) (subst (NamedBy d) (sym e) c.named)
            (subst (TextSeen s put.text) (sym c.same_text) x))

        -- nothing: an empty text
        pub named_empty : OneOf (1 ∷ 2 ∷ 8 ∷ []) (tag_of the_type row) → NameFound row found (Ok (TextAt put.text))
        named_empty one = named_kind (Ok (TextAt put.text)) 0 (1 ∷ 2 ∷ 8 ∷ []) (refl, (refl, (refl, tt))) one by
          where
            by : (t : Tables) (s : List ℕ) (d : Caption) → 0 ≡ kind_of d → caption t row ≡ some d → text_of d ≡ [] → NamedBy d put.name → TextSeen s put.text (text_of d) → Named t s row (Ok (TextAt put.text))
            by t s (text us) e q l n x = (text us, q, refl, x, omega (arith, ap length l))
            by t s (line us ds) e q l n x = absurd (omega arith)
            by t s (group us a) e q l n x = absurd (omega arith)
            by t s (individual us a) e q l n x = absurd (omega arith)

        -- a line's digits
        pub named_line : OneOf (0 ∷ 7 ∷ []) (tag_of the_type row) → NameFound row found (Ok (LineNumber put.name))
        named_line one = named_kind (Ok (LineNumber put.name)) 1 (0 ∷ 7 ∷ []) (refl, (refl, tt)) one by
          where
            by : (t : Tables) (s : List ℕ) (d : Caption) → 1 ≡ kind_of d → caption t row ≡ some d → text_of d ≡ [] → NamedBy d put.name → TextSeen s put.text (text_of d) → Named t s row (Ok (LineNumber put.name))
            by t s (line us ds) e q l n x = (ds, q ∙ ap (λ (v : Text). some (line v ds)) l, n.0, n.1)
            by t s (text us) e q l n x = absurd (omega arith)
            by t s (group us a) e q l n x = absurd (omega arith)
            by t s (individual us a) e q l n x = absurd (omega arith)

        module _ (a : ℕ) (read : AddressOf put.name a) where
          -- a group's address
          pub named_group : OneOf (3 ∷ 5 ∷ []) (tag_of the_type row) → NameFound row found (Ok (GroupNumber (record { 0 = a })))
          named_group one = named_kind (Ok (GroupNumber (record { 0 = a }))) 2 (3 ∷ 5 ∷ []) (refl, (refl, tt)) one by
            where
              by : (t : Tables) (s : List ℕ) (d : Caption) → 2 ≡ kind_of d → caption t row ≡ some d → text_of d ≡ [] → NamedBy d put.name → TextSeen s put.text (text_of d) → caption t row ≡ some (group [] (record { 0 = a }))
              by t s (group us b) e q l n x = q ∙ ap₂ (λ (v : Text) (i : ℕ). some (group v (record { 0 = i }))) l (sym n.0 ∙ sym (read.0 n.1))
              by t s (text us) e q l n x = absurd (omega arith)
              by t s (line us ds) e q l n x = absurd (omega arith)
              by t s (individual us b) e q l n x = absurd (omega arith)

          -- an individual's
          pub named_individual : OneOf (4 ∷ 6 ∷ []) (tag_of the_type row) → NameFound row found (Ok (IndividualNumber (record { 0 = a })))
          named_individual one = named_kind (Ok (IndividualNumber (record { 0 = a }))) 3 (4 ∷ 6 ∷ []) (refl, (refl, tt)) one by
            where
              by : (t : Tables) (s : List ℕ) (d : Caption) → 3 ≡ kind_of d → caption t row ≡ some d → text_of d ≡ [] → NamedBy d put.name → TextSeen s put.text (text_of d) → caption t row ≡ some (individual [] (record { 0 = a }))
              by t s (individual us b) e q l n x = q ∙ ap₂ (λ (v : Text) (i : ℕ). some (individual v (record { 0 = i }))) l (sym n.0 ∙ sym (read.0 n.1))
              by t s (text us) e q l n x = absurd (omega arith)
              by t s (line us ds) e q l n x = absurd (omega arith)
              by t s (group us b) e q l n x = absurd (omega arith)
