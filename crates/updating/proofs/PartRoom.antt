-- PART ROOM: the one part that differs has room in the first set, where texts have places of their own, or where its request empties its table first. Assumes nothing.
use Rattle.lists.proofs.Kit.{◌+◌, ◌*◌, ◌≤◌, ◌≡◌, refl, sym, ap, ◌∙◌, subst, subst⁻¹, true, true≢false, List, ◌∷◌, Option, some, arith}
use Rattle.writing.specs.declared.Kind.{Kind}
use Rattle.writing.specs.declared.Kind.TheVariants as K
use Rattle.writing.specs.Settings.{Setting, texts}
use Rattle.tables.specs.declared.limits.Limits.{Limits}
use Rattle.tables.specs.declared.limits.Texts.{Texts}
use Rattle.tables.specs.declared.limits.Texts.TheVariants.{Placed, Shared}
use Rattle.tables.specs.Allowed.{Allowed}
use Rattle.tables.specs.Apply.{and_then, in_turn, change, apply}
use Rattle.tables.specs.Owns.{own, put_own, only}
use Rattle.tables.specs.Tables.{Tables, fresh}
use Rattle.tables.specs.Texts.{units_of, text_sum, TextRoom, WhereShared}
use Rattle.tables.proofs.AllowedLaws.{forget_allowed}
use Rattle.tables.proofs.Owns.{own_put, same_kind}
use Rattle.shared_texts.proofs.RoomLaws.{then_some, freed}
use Rattle.requests.specs.Requests.{forget}
use Rattle.export.specs.declared.parts.Part.{Part}
use Rattle.export.specs.declared.parts.Part.TheVariants.{Lines, Fixed, QuickTexts, Channels, StatusTexts, Groups, Individuals, GroupContacts, IndividualContacts, LineSlots}
use Rattle.export.specs.Exportable.{Exportable}
use Rattle.export.specs.Exported.{exported}
use Rattle.restore.specs.Restored.{with_part, carried, FreshPart, HasRoom}
use Rattle.restore.proofs.CarriedTexts.{adds_at_most, carried_turn}
use Rattle.restore.proofs.FreshParts.{ready_turn}
use Rattle.restore.proofs.FreshRuns.{part_added}
use Rattle.restore.proofs.PartRuns.{part_turn}
use Rattle.restore.proofs.Requests.{own_fits}
use Rattle.restore.proofs.Restored.{any_ready}
use Rattle.restore.proofs.TextRooms.{less_room}
use Rattle.updating.specs.Updating.{Sole, never_between}
use Rattle.updating.proofs.Parts.{sole_mixed}

-- a table that was emptied is that of a fresh set
emptied : (j : Kind) (t : Tables) (k : Kind) → only j k ≡ true → own k (put_own j t (own j fresh)) ≡ own k fresh
emptied j t k h = subst (λ (i : Kind). own i (put_own j t (own j fresh)) ≡ own i fresh) (same_kind j k h) (own_put j t (own j fresh))

module _ (lim : Limits) (x : Exportable lim) (t u : Tables) (ok : Allowed lim t) (fine : Allowed lim u) where
  module _ (p : Part) (sole : Sole p t u) where
    -- what the part's settings make of the first's tables
    abbrev end : Tables
    end = with_part p u (forget t)

    changed : in_turn (change lim) (exported p u) (forget t) ≡ some end
    changed = part_turn lim lim u (forget t) fine (forget_allowed lim t ok) p (own_fits lim x u fine p).places

    -- their texts are the second's, which have room
    room : TextRoom lim.texts (text_sum end)
    room = let e : text_sum end ≡ text_sum u = ap text_sum (sole_mixed p t u sole) in subst⁻¹ (TextRoom lim.texts) e fine.texts

    -- a first setting that does not look at the table, as if that were empty before: none of the settings makes more texts than there are at the end
    cleared : (s : Setting) (l : List Setting) (v : Tables) → exported p u ≡ s ∷ l → change lim s (forget t) ≡ change lim s v → FreshPart p v → text_sum (with_part p u v) ≡ text_sum end → HasRoom lim u p t
    cleared s l v is c f w =
        let turn : in_turn (change lim) (s ∷ l) (forget t) ≡ some end = subst (λ (k : List Setting). in_turn (change lim) k (forget t) ≡ some end) is changed in
        let (y, a, b) = then_some (change lim s (forget t)) (in_turn (change lim) l) end turn in
        let g : text_sum y ≤ text_sum v + 2 * units_of (texts s) = adds_at_most lim s v y (sym c ∙ a) in
        let d : text_sum (with_part p u v) ≡ text_sum v + carried (exported p u) = part_added u v p f in
        let n : carried (exported p u) ≡ 2 * units_of (texts s) + carried l = ap carried is in
        let m : text_sum y + carried l ≤ text_sum end = omega (arith, g, d, n, w) in
        subst⁻¹ (λ (k : List Setting). in_turn (apply lim) k (forget t) ≡ some end) is
        (ap (λ (o : Option Tables). and_then o (in_turn (apply lim) l)) (freed lim s (forget t) y a (less_room lim.texts (text_sum y) (text_sum end) (omega (arith, m)) room))
        ∙ carried_turn lim l y end b (less_room lim.texts (text_sum y + carried l) (text_sum end) m room))

    -- a part without texts adds none
    textless : carried (exported p u) ≡ 0 → HasRoom lim u p t
    textless e = carried_turn lim (exported p u) (forget t) end changed (less_room lim.texts (text_sum (forget t) + carried (exported p u)) (text_sum t) (omega (arith, e)) ok.texts)

  -- the tables with one of them empty
  abbrev without : Kind → Tables
  without k = put_own k (forget t) (own k fresh)

  shared_room : (p : Part) → Sole p t u → never_between p ≡ true → HasRoom lim u p t
  shared_room Lines o e = cleared Lines o _ _ (without K.Lines) refl refl (emptied K.Lines (forget t)) refl
  shared_room Fixed o e = textless Fixed o refl
  shared_room QuickTexts o e = cleared QuickTexts o _ _ (without K.QuickTexts) refl refl (emptied K.QuickTexts (forget t)) refl
  shared_room Channels o e = textless Channels o refl
  shared_room StatusTexts o e = cleared StatusTexts o _ _ (without K.StatusTexts) refl refl (emptied K.StatusTexts (forget t)) refl
  shared_room Groups o e = absurd (true≢false (sym e))
  shared_room Individuals o e = absurd (true≢false (sym e))
  shared_room GroupContacts o e = cleared GroupContacts o _ _ (without K.GroupContacts) refl refl (emptied K.GroupContacts (forget t)) refl
  shared_room IndividualContacts o e = cleared IndividualContacts o _ _ (without K.IndividualContacts) refl refl (emptied K.IndividualContacts (forget t)) refl
  shared_room LineSlots o e = absurd (true≢false (sym e))

  -- HAS ROOM: in either form
  pub has_room : (p : Part) → Sole p t u → WhereShared lim.texts (never_between p ≡ true) → HasRoom lim u p t
  has_room p o = by lim.texts refl
    where
      by : (y : Texts) → lim.texts ≡ y → WhereShared y (never_between p ≡ true) → HasRoom lim u p t
      by Placed e h = ready_turn lim lim u t fine ok p (own_fits lim x u fine p).places (any_ready lim e t) fine.texts
      by (Shared a) e h = shared_room p o h
