-- Exports compared part by part, and what proposing answers. Assumes nothing.
use Rattle.lists.proofs.Kit.{ℕ, ◌+◌, ◌-◌, ◌≤◌, ◌<◌, ◌≡◌, refl, ap, ap₂, ◌∙◌, subst⁻¹, inl, inr, List, [], ◌∷◌, Bool, arith, mid_of, length, get_or, take}
use Rattle.std.specs.Prelude.{Ok, Err}
use denote.Enum.Declared.{tag_of}
use types.Run.{OneOf, miss}
use Rattle.lists.specs.Ladder.{Answers}
use Rattle.slots.specs.Slots.{same?}
use Rattle.tables.specs.declared.limits.Limits.{Limits}
use Rattle.tables.specs.declared.limits.Texts.{Texts}
use Rattle.tables.specs.declared.limits.Texts.TheVariants.{Placed, Shared}
use Rattle.tables.specs.Forms.{Roomy}
use Rattle.tables.specs.Store.{StoreOf, Holds}
use Rattle.tables.specs.Tables.{Tables}
use Rattle.working.specs.Seen.{LendsIn, Lends}
use Rattle.export.specs.declared.parts.Part.{Part}
use Rattle.export.specs.declared.parts.Part.TheVariants.{Lines}
use Rattle.export.specs.declared.parts.NoExport.{NoExport}
use Rattle.export.specs.declared.parts.NoExport.TheVariants.{Buffer, NotAStore, NoPart}
use Rattle.export.specs.Exportable.{Exportable}
use Rattle.export.specs.Exported.{ten, part_number, exported, request_bytes}
use Rattle.export.specs.Exporting.{AfterExport, no_export, exporting, told as export_told}
use Rattle.export.proofs.PartWriting.{ten_at}
use Rattle.restore.proofs.ExportedBytes.{written_one, exported_bytes}
use Rattle.updating.specs.declared.answers.Proposal.TheVariants as P
use Rattle.updating.specs.declared.proposing.Differing.{Differing}
use Rattle.updating.specs.declared.proposing.Differing.TheVariants.{Nothing, One, Several}
use Rattle.updating.specs.Updating.{Sole, AfterProposal, stays, proposing, Both, Compared, noted, Known, AllCompared}
use Rattle.updating.specs.contracts.proposing.Differing.{the_type}
use Rattle.updating.proofs.Parts.{same_told, known_next, known_sole, known_same, known_several}

-- ---- what is lent

-- as many bytes are lent as well
lends_same : (lim : Limits) (work now : List ℕ) → length now ≡ length work → Lends lim work → Lends lim now
lends_same lim work now e = go lim.texts
  where
    go : (x : Texts) → LendsIn x lim.size work → LendsIn x lim.size now
    go Placed l = tt
    go (Shared a) l = e ∙ l

pub both_same : (lim : Limits) (first second a b work a' b' work' : List ℕ) (t u : Tables) → length a' ≡ length a → length b' ≡ length b → length work' ≡ length work
    → Both lim first second a b work t u → Both lim first second a' b' work' t u
both_same lim first second a b work a' b' work' t u i j k h = record {
  able = h.able;
  roomy = h.roomy;
  here = h.here;
  there = h.there;
  lent = record { one = omega (arith, i, h.lent.one); other = omega (arith, j, h.lent.other); copy = lends_same lim work work' k h.lent.copy };
}

-- ---- one export

-- no refusal is 0
not_0 : (k : NoExport) → no_export k ≡ 0 → ⊥
not_0 Buffer e = omega arith
not_0 NotAStore e = omega arith
not_0 NoPart e = omega arith

module _ (lim : Limits) (part : ℕ) (store buffer after : List ℕ) (t : Tables) (p : Part) (roomy : Roomy lim) (h : Holds lim t store) (n : part_number p ≡ part) (size : lim.message ≤ length buffer) where
  -- from a store, into a buffer of a message's size, a part is not refused
  pub not_refused : (k : NoExport) → Answers (exporting lim part store buffer) (record { answer = export_told (Err k); buffer = after }) → ⊥
  not_refused k a = not_0 k (exported_bytes lim part store buffer t p roomy h n size _ a).0

  -- its request stands at the start
  at_start : (m : ℕ) → Answers (exporting lim part store buffer) (record { answer = export_told (Ok m); buffer = after }) → mid_of 0 (m - 0) after ≡ request_bytes (exported p t)
  at_start m a =
      let i : m - 0 ≡ m = omega arith in
      ap (λ (k : ℕ). take k after) i ∙ (exported_bytes lim part store buffer t p roomy h n size _ a).1

-- ---- a part in both stores

module _ (lim : Limits) (part : ℕ) (first second a b work : List ℕ) where
  -- nothing is said of a part that was not written
  pub first_unwritten : (after : List ℕ) (k : NoExport) (r : Bool) → (Exportable lim → Lends lim work → Answers (exporting lim part first a) (record { answer = export_told (Err k); buffer = after }))
      → Compared lim part first second a b work r
  first_unwritten after k r e p t u n h = absurd (not_refused lim part first a after t p h.roomy h.here n h.lent.one k (e h.able h.lent.copy))

  module _ (work' : List ℕ) (same : length work' ≡ length work) where
    pub second_unwritten : (after : List ℕ) (k : NoExport) (r : Bool) → (Exportable lim → Lends lim work' → Answers (exporting lim part second b) (record { answer = export_told (Err k); buffer = after }))
        → Compared lim part first second a b work r
    second_unwritten after k r e p t u n h =
        absurd (not_refused lim part second b after u p h.roomy h.there n h.lent.other k (e h.able (lends_same lim work work' same h.lent.copy)))

    -- where both were, their requests were compared
    pub compared : (a' b' : List ℕ) (m n : ℕ) (r : Bool) → (Exportable lim → Lends lim work → Answers (exporting lim part first a) (record { answer = export_told (Ok m); buffer = a' }))
        → (Exportable lim → Lends lim work' → Answers (exporting lim part second b) (record { answer = export_told (Ok n); buffer = b' }))
        → r ≡ same? (mid_of 0 (m - 0) a') (mid_of 0 (n - 0) b') → Compared lim part first second a b work r
    compared a' b' m n r e d is p t u number h =
        let x : mid_of 0 (m - 0) a' ≡ request_bytes (exported p t) = at_start lim part first a a' t p h.roomy h.here number h.lent.one m (e h.able h.lent.copy) in
        let y : mid_of 0 (n - 0) b' ≡ request_bytes (exported p u)
        = at_start lim part second b b' u p h.roomy h.there number h.lent.other n (d h.able (lends_same lim work work' same h.lent.copy)) in
        same_told lim h.able t u h.here.0 h.there.0 p r (is ∙ ap₂ same? x y)

-- ---- one part after the other

-- KNOWN TURN: a turn of the walk over all parts
pub known_turn : (lim : Limits) (first second a b work a' b' work' : List ℕ) (k : ℕ) (d e : Differing) (r : Bool) → k < length ten → length a' ≡ length a → length b' ≡ length b → length work' ≡ length work
    → Compared lim (k + 1) first second a' b' work' r → e ≡ noted d (k + 1) r → ((t u : Tables) → Both lim first second a b work t u → Known t u k d)
    → (t u : Tables) → Both lim first second a b work t u → Known t u (k + 1) e
known_turn lim first second a b work a' b' work' k d e r l i j w c is before t u h =
    let p : Part = get_or ten k Lines in
    let n : part_number p ≡ k + 1 = ten_at k l in
    subst⁻¹ (Known t u (k + 1)) is (known_next t u k p n d r (c p t u n (both_same lim first second a b work a' b' work' t u i j w h)) (before t u h))

-- ---- what proposing answers

module _ (lim : Limits) (first second buffer : List ℕ) where
  -- "11 for either store, first store first"
  pub says_first : (StoreOf lim first → ⊥) → Answers (proposing lim first second buffer) (stays lim first second buffer P.FirstNotAStore)
  says_first n = inl (n, refl)

  pub says_second : StoreOf lim first → (StoreOf lim second → ⊥) → Answers (proposing lim first second buffer) (stays lim first second buffer P.SecondNotAStore)
  says_second s n = inr (λ k. k s, inl (n, refl))

  module _ (s : StoreOf lim first) (z : StoreOf lim second) where
    -- "15 for a buffer under 4,096 bytes", which is the most that a message has
    pub says_15 : length buffer < lim.message → Answers (proposing lim first second buffer) (stays lim first second buffer P.Buffer)
    says_15 h = inr (λ k. k s, inr (λ k. k z, inl (h, refl)))

    module _ (size : lim.message ≤ length buffer) (x : Exportable lim) (a b work : List ℕ) (one : lim.message ≤ length a) (other : lim.message ≤ length b) (copy : Lends lim work) where
      -- both hold tables
      both : (t u : Tables) → Holds lim t first → Holds lim u second → Both lim first second a b work t u
      both t u h k = record { able = x; roomy = s.roomy; here = h; there = k; lent = record { one = one; other = other; copy = copy } }

      -- "19, with nothing written, exactly when the tables of no export part, or of several, differ"
      says_none : AllCompared lim first second a b work Nothing → Answers (proposing lim first second buffer) (stays lim first second buffer P.NoSinglePart)
      says_none c = inr (λ k. k s, inr (λ k. k z, inr (λ k. omega (arith, k, size), inl (λ t u h k p o. o.0 (known_same t u (c t u (both t u h k)) p), refl))))

      says_several : AllCompared lim first second a b work Several → Answers (proposing lim first second buffer) (stays lim first second buffer P.NoSinglePart)
      says_several c = inr (λ k. k s, inr (λ k. k z, inr (λ k. omega (arith, k, size), inl (λ t u h k p o. known_several t u (c t u (both t u h k)) p o, refl))))

      pub says_no_single : (d : Differing) → OneOf (0 ∷ 2 ∷ []) (tag_of the_type d) → AllCompared lim first second a b work d
          → Answers (proposing lim first second buffer) (stays lim first second buffer P.NoSinglePart)
      says_no_single Nothing k c = says_none c
      says_no_single (One n) k c = absurd (miss (0 ∷ 2 ∷ []) 1 tt k)
      says_no_single Several k c = says_several c

      module _ (n : ℕ) (c : AllCompared lim first second a b work (One n)) (work' after : List ℕ) (same : length work' ≡ length work) where
        abbrev t : Tables
        t = s.store.tables

        abbrev u : Tables
        u = z.store.tables

        here : Holds lim t first
        here = (s.store.allowed, s.store.bytes_are)

        there : Holds lim u second
        there = (z.store.allowed, z.store.bytes_are)

        found : (p : Part) × (part_number p ≡ n) × Sole p t u
        found = known_sole t u n (c t u (both t u here there))

        -- one part alone differs, and is written
        pub says_written : (m : ℕ) → (Exportable lim → Lends lim work' → Answers (exporting lim n second buffer) (record { answer = export_told (Ok m); buffer = after }))
            → Answers (proposing lim first second buffer) (record { answer = P.Written m; buffer = after })
        says_written m e =
            let (p, number, sole) = found in
            let w = written_one lim n second buffer u p z.roomy there number size _ (e x (lends_same lim work work' same copy)) in
            let l : m ≡ length (request_bytes (exported p u)) = ap (λ (y : AfterExport). y.answer.request_length) w in
            inr (
              λ k. k s,
              inr (
                λ k. k z,
                inr (
                  λ k. omega (arith, k, size),
                  inr (
                    λ k. k t u here there p sole,
                    record { before = t; held = here; wanted = u; asked = there; which = p; sole = sole; outcome = λ i. record { answer = P.Written (l i); buffer = (w i).buffer } },
                  ),
                ),
              ),
            )

        -- and never refused
        pub says_nothing : (k : NoExport) (q : AfterProposal) → (Exportable lim → Lends lim work' → Answers (exporting lim n second buffer) (record { answer = export_told (Err k); buffer = after }))
            → Answers (proposing lim first second buffer) q
        says_nothing k q e =
            let (p, number, _) = found in
            absurd (not_refused lim n second buffer after u p z.roomy there number size k (e x (lends_same lim work work' same copy)))
