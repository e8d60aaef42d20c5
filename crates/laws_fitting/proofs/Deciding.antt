-- Whether an export fits another set, and the first of its parts that does not: decided, and in one way. Assumes nothing.
use Rattle.lists.proofs.Kit.{◌≤◌, ◌≡◌, refl, ap, subst, subst⁻¹, ◌⊎◌, inl, inr, List, [], ◌∷◌, ◌++◌, head-eq_of_cons-eq, tail-eq_of_cons-eq, arith, length}
use native.Mathlib.Decide.{dec_le}
use Rattle.lists.specs.Every.{All}
use Rattle.tables.specs.declared.limits.Limits.{Limits}
use Rattle.tables.specs.Tables.{Tables}
use Rattle.tables.specs.Texts.{text_sum, TextRoom, Passes}
use Rattle.export.specs.declared.parts.Part.{Part}
use Rattle.export.specs.declared.parts.Part.TheVariants.{Lines, Fixed, QuickTexts, Channels, StatusTexts, Groups, Individuals, GroupContacts, IndividualContacts, LineSlots}
use Rattle.export.specs.Exported.{ten, exported, request_bytes}
use Rattle.restore.specs.Restored.{PlacesFor, texts_upto, PartFits}
use Rattle.restore.proofs.FreshParts.{sum_all, sum_most}
use Rattle.restore.proofs.Requests.{places_for}
use Rattle.restore.proofs.TextRooms.{less_room, room_or_past, not_both}
use Rattle.laws_fitting.specs.Fits.{FitsIn}

-- ---- the first that does not have P

pub record FirstWithout {A : Type 0} (P : A → Type 0) (l : List A) : Type 0 where
  pub before : List A
  pub element : A
  pub behind : List A
  pub order : before ++ (element ∷ behind) ≡ l
  pub have : All P before
  pub has_not : P element → ⊥

module _ {A : Type 0} (P : A → Type 0) where
  -- all have it, or there is a first that does not
  pub all_or_first : ((a : A) → Dec (P a)) → (l : List A) → All P l ⊎ FirstWithout P l
  all_or_first decide [] = inl tt
  all_or_first decide (x ∷ l) = by (decide x) (all_or_first decide l)
    where
      by : Dec (P x) → All P l ⊎ FirstWithout P l → All P (x ∷ l) ⊎ FirstWithout P (x ∷ l)
      by (no n) r = inr (record { before = []; element = x; behind = l; order = refl; have = tt; has_not = n })
      by (yes p) (inl r) = inl (p, r)
      by (yes p) (inr r) =
          inr (record { before = x ∷ r.before; element = r.element; behind = r.behind; order = ap (λ (k : List A). x ∷ k) r.order; have = (p, r.have); has_not = r.has_not })

  -- and no two
  pub one_first : (a b : List A) (x y : A) (c d : List A) → a ++ (x ∷ c) ≡ b ++ (y ∷ d) → All P a → (P x → ⊥) → All P b → (P y → ⊥) → x ≡ y
  one_first [] [] x y c d e p n q m = head-eq_of_cons-eq e
  one_first [] (z ∷ b) x y c d e p n q m = absurd (n (subst⁻¹ P (head-eq_of_cons-eq e) q.0))
  one_first (z ∷ a) [] x y c d e p n q m = absurd (m (subst P (head-eq_of_cons-eq e) p.0))
  one_first (z ∷ a) (w ∷ b) x y c d e p n q m = one_first a b x y c d (tail-eq_of_cons-eq e) p.1 n q.1 m

-- ---- parts

-- what all ten have, each part has
pub each_part : (P : Part → Type 0) → All P ten → (p : Part) → P p
each_part P h Lines = h.0
each_part P h Fixed = h.1.0
each_part P h QuickTexts = h.1.1.0
each_part P h Channels = h.1.1.1.0
each_part P h StatusTexts = h.1.1.1.1.0
each_part P h Groups = h.1.1.1.1.1.0
each_part P h Individuals = h.1.1.1.1.1.1.0
each_part P h GroupContacts = h.1.1.1.1.1.1.1.0
each_part P h IndividualContacts = h.1.1.1.1.1.1.1.1.0
each_part P h LineSlots = h.1.1.1.1.1.1.1.1.1.0

module _ (to : Limits) (t : Tables) where
  -- whether there are places
  pub places? : (p : Part) → Dec (PlacesFor to t p)
  places? Lines = dec_le (length t.lines) to.lines
  places? Fixed = yes tt
  places? QuickTexts = yes tt
  places? Channels = dec_le (length t.channels) to.channels
  places? StatusTexts = yes tt
  places? Groups = yes tt
  places? Individuals = yes tt
  places? GroupContacts = yes tt
  places? IndividualContacts = yes tt
  places? LineSlots = yes tt

  -- whether a part fits
  fits? : (p : Part) → Dec (PartFits to t p)
  fits? p = by (dec_le (length (request_bytes (exported p t))) to.message) (places? p) (room_or_past to.texts (texts_upto t p))
    where
      by : Dec (length (request_bytes (exported p t)) ≤ to.message) → Dec (PlacesFor to t p) → TextRoom to.texts (texts_upto t p) ⊎ Passes to.texts (texts_upto t p)
          → Dec (PartFits to t p)
      by (yes r) (yes h) (inl i) = yes (record { request = r; places = h; texts = i })
      by (yes r) (yes h) (inr l) = no (λ f. not_both to.texts (texts_upto t p) f.texts l)
      by (yes r) (no n) i = no (λ f. n f.places)
      by (no n) h i = no (λ f. n f.request)

  -- what fits, fits part by part
  pub fits_each : FitsIn to t → (p : Part) → PartFits to t p
  fits_each f p = record {
    request = f.requests p;
    places = places_for to t (omega (arith, f.lines)) (omega (arith, f.channels)) p;
    texts = less_room to.texts (texts_upto t p) (text_sum t) (sum_most t p) f.texts;
  }

  -- and back
  pub each_fits : All (PartFits to t) ten → FitsIn to t
  each_fits h =
      let each : (p : Part) → PartFits to t p = each_part (PartFits to t) h in
      record {
        lines = omega (arith, (each Lines).places);
        channels = omega (arith, (each Channels).places);
        requests = λ p. (each p).request;
        texts = subst (TextRoom to.texts) (sum_all t) (each LineSlots).texts;
      }

  -- all ten fit, or there is a first that does not
  pub first_misfit : All (PartFits to t) ten ⊎ FirstWithout (PartFits to t) ten
  first_misfit = all_or_first (PartFits to t) fits? ten
