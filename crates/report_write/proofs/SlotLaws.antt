-- What stands in a slot, an entry or none: how many bytes, and when they are all zeros. Assumes nothing.
use Rattle.lists.proofs.Kit.{ℕ, ◌≤◌, ◌<◌, ◌≡◌, refl, sym, ap, ◌∙◌, subst⁻¹, true, false, true≢false, ◌&&◌, List, Option, none, some, arith, length, replicate, length-replicate}
use Rattle.slots.specs.Slots.{zeros?}
use Rattle.tables.proofs.EntryCodes.{quick_code, quick_shown, status_code, status_shown, channel_code, channel_shown, line_code, line_shown, group_code, group_shown, individual_code, individual_shown}
use Rattle.tables.proofs.FixedCodes.{hash_code, key_code, home_code, system_code}
use Rattle.export_write.specs.Writers.{Wrote}
use Rattle.export_write.proofs.WroteLaws.{wrote_none}
use Rattle.reports.specs.declared.Asked.{Asked}
use Rattle.reports.specs.declared.Asked.TheVariants.{Groups, Individuals, Lines, Key, QuickTexts, Home, Channels, System, StatusTexts, Hash}
use Rattle.reports.specs.TableSlots.{EntryOf, EntryOk, MayBeEmpty, InSlot, InPlaces, entry_bytes, slot_item, slot_width}
use Rattle.report_write.specs.ItemWriters.{WritesEntry, WritesItem, item_most, may_be_empty}

-- ---- the bytes of an entry

-- they are as many as the slot has
pub entry_long : (a : Asked) (x : EntryOf a) → length (entry_bytes a x) ≡ slot_width a
entry_long Groups x = group_code.long x
entry_long Individuals x = individual_code.long x
entry_long Lines x = line_code.long x
entry_long Key x = key_code.long x
entry_long QuickTexts x = quick_code.long x
entry_long Home x = home_code.long x
entry_long Channels x = channel_code.long x
entry_long System x = system_code.long x
entry_long StatusTexts x = status_code.long x
entry_long Hash x = hash_code.long x

-- and not all zeros, where a slot can be empty
pub entry_shown : (a : Asked) (x : EntryOf a) → EntryOk a x → (may_be_empty a && zeros? (entry_bytes a x)) ≡ false
entry_shown Groups x ok = group_shown x ok
entry_shown Individuals x ok = individual_shown x ok
entry_shown Lines x ok = line_shown x ok
entry_shown Key x ok = refl
entry_shown QuickTexts x ok = quick_shown x ok
entry_shown Home x ok = refl
entry_shown Channels x ok = channel_shown x ok
entry_shown System x ok = refl
entry_shown StatusTexts x ok = status_shown x ok
entry_shown Hash x ok = refl

-- those of an empty slot are
empty_zeros : (a : Asked) → MayBeEmpty a → (may_be_empty a && zeros? (replicate (slot_width a) 0)) ≡ true
empty_zeros Groups h = refl
empty_zeros Individuals h = refl
empty_zeros Lines h = refl
empty_zeros Key h = absurd h
empty_zeros QuickTexts h = refl
empty_zeros Home h = absurd h
empty_zeros Channels h = refl
empty_zeros System h = absurd h
empty_zeros StatusTexts h = refl
empty_zeros Hash h = absurd h

-- ---- what was written of a slot

-- the parameter of the type that was told
pub told_writes : (slot : List ℕ) (place rank : ℕ) (before after : List ℕ) (r : ℕ) {a b : Asked} → a ≡ b → WritesEntry b slot place rank before after r → WritesEntry a slot place rank before after r
told_writes slot place rank before after r e w = subst⁻¹ (λ (c : Asked). WritesEntry c slot place rank before after r) e w

module _ (a : Asked) (slot : List ℕ) where
  -- SLOT LONG: a slot's bytes are as many as its table's slots have
  pub slot_long : (o : Option (EntryOf a)) → InSlot a slot o → length slot ≡ slot_width a
  slot_long none h = ap length h.1 ∙ length-replicate (slot_width a) 0
  slot_long (some x) h = ap length h.1 ∙ entry_long a x

  module _ (place rank : ℕ) (before : List ℕ) where
    -- there is no room
    pub no_room : length before < item_most → WritesItem a slot place rank before before 0
    no_room l = record { most = omega arith; wrote = λ o h p m. absurd (omega arith) }

    -- it is no slot of the table
    pub no_slot : (length slot ≡ slot_width a → ⊥) → WritesItem a slot place rank before before 0
    no_slot n = record { most = omega arith; wrote = λ o h p m. absurd (n (slot_long o h)) }

    -- it is empty
    pub none_wrote : (may_be_empty a && zeros? slot) ≡ true → WritesItem a slot place rank before before 0
    none_wrote z = record { most = omega arith; wrote = λ o h p m. nothing o h m }
      where
        nothing : (o : Option (EntryOf a)) → InSlot a slot o → item_most ≤ length before → Wrote (slot_item a place rank o) 0 before before 0
        nothing none h m = wrote_none 0 before (omega arith)
        nothing (some x) h m = absurd (true≢false (sym z ∙ ap (λ (s : List ℕ). may_be_empty a && zeros? s) h.1 ∙ entry_shown a x h.0))

    -- it keeps an entry
    pub one_wrote : (after : List ℕ) (r : ℕ) → (may_be_empty a && zeros? slot) ≡ false → WritesEntry a slot place rank before after r → WritesItem a slot place rank before after r
    one_wrote after r z w = record { most = w.most; wrote = λ o h p m. its o h p }
      where
        its : (o : Option (EntryOf a)) → InSlot a slot o → InPlaces a place → Wrote (slot_item a place rank o) 0 before after r
        its none h p = absurd (true≢false (sym (empty_zeros a h.0) ∙ ap (λ (s : List ℕ). may_be_empty a && zeros? s) (sym h.1) ∙ z))
        its (some x) h p = w.wrote x (p, h.0, h.1)
