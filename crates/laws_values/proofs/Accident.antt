-- The accident of the old set, one entry's name beside another's address, in requests of one setting with two entries. Assumes nothing.
use Rattle.lists.proofs.Kit.{ℕ, ◌≡◌, refl, ap, List, [], ◌∷◌, head-eq_of_cons-eq, arith}
use Rattle.writing.specs.declared.GroupFlags.{GroupFlags}
use Rattle.writing.specs.declared.Operation.TheVariants.{Add}
use Rattle.writing.specs.Settings.{Setting, group_contacts}
use Rattle.tables.specs.Apply.{contact_of}
use Rattle.tables.specs.Tables.{GroupMember}
use Rattle.laws_screen.specs.ByKey.{to_group_contact}
use Rattle.laws_values.specs.Sent.{OneOfList, GroupContactSent}
use Rattle.laws_values.proofs.Entries.{one_sent, group_contact_together}

module _ (f : GroupFlags) where
  -- a group contact with an address and a name of one unit
  abbrev member : ℕ → ℕ → GroupMember
  member a u = record { flags = f; address = record { 0 = a }; text = u ∷ [] }

  -- one setting adds two
  abbrev adds : (a u b v : ℕ) → List Setting
  adds a u b v = group_contacts Add f (record { address = record { 0 = a }; text = u ∷ [] } ∷ record { address = record { 0 = b }; text = v ∷ [] } ∷ []) ∷ []

  -- where the last for an address has this name, it was not sent with that one
  other_name : (l : List Setting) (a u v : ℕ) → GroupContactSent l (member a u) → GroupContactSent l (member a v) → u ≡ v
  other_name l a u v x y =
      let same = one_sent (to_group_contact (record { 0 = a })) (OneOfList group_contacts contact_of (λ g. g.address)) l (member a u) (member a v) x y in
      head-eq_of_cons-eq (ap (λ (g : GroupMember). g.text) same)

  -- TWO ENTRIES: addresses 1 and 2 under the names 65 and 66 were sent so
  pub first_sent : GroupContactSent (adds 1 65 2 66) (member 1 65)
  first_sent = group_contact_together (adds 1 65 2 66) (member 1 65) (record { before = []; setting = _; after = []; split = refl; sent = refl; untouched = tt })

  pub second_sent : GroupContactSent (adds 1 65 2 66) (member 2 66)
  second_sent = group_contact_together (adds 1 65 2 66) (member 2 66) (record { before = []; setting = _; after = []; split = refl; sent = refl; untouched = tt })

  -- THE ACCIDENT: the name of one beside the address of the other never was
  pub never_mixed : GroupContactSent (adds 1 65 2 66) (member 1 66) → ⊥
  never_mixed x = omega (arith, other_name (adds 1 65 2 66) 1 65 66 first_sent x)

  -- LATER ENTRY: of two entries for one address the later was sent for it, and the earlier is nothing any more
  pub later_sent : GroupContactSent (adds 1 65 1 66) (member 1 66)
  later_sent = group_contact_together (adds 1 65 1 66) (member 1 66) (record { before = []; setting = _; after = []; split = refl; sent = refl; untouched = tt })

  pub earlier_gone : GroupContactSent (adds 1 65 1 66) (member 1 65) → ⊥
  earlier_gone x = omega (arith, other_name (adds 1 65 1 66) 1 65 66 x later_sent)
