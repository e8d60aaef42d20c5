-- Quick and status texts: their settings were written, the entries first and the heads before them. Assumes nothing.
use Rattle.lists.proofs.Kit.{ℕ, suc, ◌+◌, ◌*◌, ◌≤◌, ◌<◌, ◌≡◌, refl, sym, ap, ap₂, ◌∙◌, subst, true, false, true≢false, List, [], ◌∷◌, ◌++◌, map, append-nil, Option, none, some, arith, mid_of, length, get_or, take, drop, drop_of_length-le, length-take, drop-cons, take_all}
use Rattle.lists.specs.Every.{All}
use Rattle.lists.proofs.Every.{all_get, all_take}
use Rattle.slots.specs.Slots.{flat, zeros?, Present}
use Rattle.slots.proofs.Tables.{place_read}
use Rattle.writing.specs.declared.Operation.TheVariants.{Add, Replace}
use Rattle.writing.specs.Canonical.{plain, canonical, canonical_all, FitsField}
use Rattle.writing.specs.Settings.{Text, Entry, quick_texts, status_texts, kind, unicode16}
use Rattle.writing.specs.Writing.{type_byte, body}
use Rattle.tables.specs.Allowed.{QuickOk, StatusOk}
use Rattle.tables.specs.Layout.{quick_bytes, quick_width, status_width}
use Rattle.tables.specs.Limits.{quick_places, status_places}
use Rattle.tables.proofs.EntryCodes.{quick_code, quick_shown}
use Rattle.export_write.specs.declared.entries.TextTable.{TextTable}
use Rattle.export_write.specs.declared.entries.Entries.{Entries}
use Rattle.export_write.specs.declared.writers.Settings.{Settings}
use Rattle.export_write.specs.EntryWriters.{entry_bytes, EntersAll, QuickIn, QuicksIn, StatusesIn, last_quick, quick_settings, WritesEntry}
use Rattle.export_write.specs.EntrySettings.{entries, quick_add}
use Rattle.export_write.specs.Writers.{Wrote, WritesAll, Started}
use Rattle.export_write.proofs.TextLists.{EntryOk, entries_ok, entries_few, quick_fits, quick_plain, quick_placed, status_fits, status_plain, status_placed}
use Rattle.export_write.proofs.WroteLaws.{wrote_before, wrote_both, wrote_none, wrote_as}

-- a head that was written before entries that were written
head_before : (a b : List ℕ) (at m n r : ℕ) (s t u : List ℕ) → Wrote b m s t r → Wrote a at t u n → at + length a ≡ m → Wrote (a ++ b) at s u r
head_before a b at m n r s t u v w e = wrote_before a b at m r s t u v (subst (λ (k : ℕ). Wrote a at t u k) (w.next ∙ e) w)

-- ---- status texts

abbrev pub status_table : TextTable
status_table = record { width = status_width; skip = 1; places = status_places; first = 32; most = status_places }

pub status_wrote : (region s t u : List ℕ) (at m : ℕ) (r : Entries) → EntersAll status_table region (at + 5) s t r → Wrote (192 ∷ r.count ∷ []) (at + 3) t u m
    → (os : List (Option Text)) → StatusesIn region os
    → (type_byte (kind (status_texts Replace (entries 32 os))) ≡ 0xD0) × All FitsField (body unicode16 (status_texts Replace (entries 32 os)))
    × Wrote (plain (body unicode16 (status_texts Replace (entries 32 os)))) (at + 3) s u r.end
status_wrote region s t u at m r g w os p =
    let es : List Entry = entries 32 os in
    let few : length es ≤ status_places = omega (arith, entries_few 32 os, p.many) in
    let h : All (EntryOk 128) es = entries_ok StatusOk (λ us q. q.units) 128 32 os p.each (omega (arith, p.many)) in
    let k = g.entered (1 ∷ []) 16 os refl refl (status_placed os region p) in
    let a : take status_places es ≡ es = take_all status_places es few in
    let c : r.count ≡ length es = k.counted ∙ ap length a in
    let b : flat (map entry_bytes (take status_places es)) ≡ flat (map entry_bytes es) = ap (λ (x : List Entry). flat (map entry_bytes x)) a in
    let e : (192 ∷ r.count ∷ []) ++ flat (map entry_bytes (take status_places es)) ≡ plain (body unicode16 (status_texts Replace es))
    = ap₂ (λ (i : ℕ) (x : List ℕ). 192 ∷ i ∷ x) c b ∙ sym (status_plain es h (omega arith)) in (
      refl,
      status_fits es h (omega arith),
      wrote_as ((192 ∷ r.count ∷ []) ++ flat (map entry_bytes (take status_places es))) (plain (body unicode16 (status_texts Replace es))) (at + 3) r.end s u e
          (head_before (192 ∷ r.count ∷ []) (flat (map entry_bytes (take status_places es))) (at + 3) (at + 5) m r.end s t u k.wrote w (omega arith)),
    )

-- ---- quick texts

abbrev pub quick_table : TextTable
quick_table = record { width = quick_width; skip = 0; places = quick_places; first = 0; most = 63 }

-- the entries of a table are quick texts
quick_entries : (region : List ℕ) (os : List (Option Text)) → QuicksIn region os → All (EntryOk 64) (entries 0 os)
quick_entries region os p = entries_ok QuickOk (λ us q. q.text.units) 64 0 os p.each (omega (arith, p.many))

-- the replace
pub quick_wrote : (region s t u v : List ℕ) (at m z : ℕ) (r : Entries) → EntersAll quick_table region (at + 4) s t r → Wrote ((192 + r.count) ∷ []) (at + 3) t u m
    → Started 0xCC at r.end u v z → (os : List (Option Text)) → QuicksIn region os
    → Wrote (canonical unicode16 (quick_texts Replace (take 63 (entries 0 os)))) at s v z
quick_wrote region s t u v at m z r g w st os p =
    let es : List Entry = take 63 (entries 0 os) in
    let few : length es < 64 = omega (arith, length-take 63 (entries 0 os)) in
    let h : All (EntryOk 64) es = all_take (EntryOk 64) 63 (entries 0 os) (quick_entries region os p) in
    let k = g.entered [] 23 os refl refl (quick_placed os region p) in
    let e : ((192 + r.count) ∷ []) ++ flat (map entry_bytes es) ≡ plain (body unicode16 (quick_texts Replace es))
    = ap (λ (i : ℕ). (192 + i) ∷ flat (map entry_bytes es)) k.counted ∙ sym (quick_plain Replace es h few (omega arith)) in
    st.setting (quick_texts Replace es) s refl (quick_fits Replace es h few (omega arith))
    (wrote_as (((192 + r.count) ∷ []) ++ flat (map entry_bytes es)) (plain (body unicode16 (quick_texts Replace es))) (at + 3) r.end s u e
    (head_before ((192 + r.count) ∷ []) (flat (map entry_bytes es)) (at + 3) (at + 4) m r.end s t u k.wrote w (omega arith)))

-- the last place: no quick text
pub last_none : (s b : List ℕ) (at : ℕ) → at ≤ length b → zeros? s ≡ true → (o : Option Text) → QuickIn s o
    → Wrote (canonical_all unicode16 (last_quick o)) at b b at × (0 ≡ length (last_quick o))
last_none s b at h z none k = (wrote_none at b h, refl)
last_none s b at h z (some us) k = absurd (true≢false (sym z ∙ ap zeros? k.1 ∙ quick_shown us k.0))

-- or its add
pub last_some : (s a b c d : List ℕ) (at m n r : ℕ) → zeros? s ≡ false → Wrote (65 ∷ []) (at + 3) a b m
    → WritesEntry 63 0 s m b c n → Started 0xCC at n c d r
    → (o : Option Text) → QuickIn s o
    → Wrote (canonical_all unicode16 (last_quick o)) at a d r × (1 ≡ length (last_quick o))
last_some s a b c d at m n r z v w st none k = absurd (true≢false (ap zeros? (sym k.1) ∙ z))
last_some s a b c d at m n r z v w st (some us) k =
    let e : Entry = record { index = 63; text = us } in
    let h : All (EntryOk 64) (e ∷ []) = ((omega arith, k.0.text.units), tt) in
    let x : entry_bytes e ≡ flat (map entry_bytes (e ∷ [])) = sym (append-nil (entry_bytes e)) in
    let y : (65 ∷ []) ++ entry_bytes e ≡ plain (body unicode16 (quick_add e))
    = ap (λ (l : List ℕ). 65 ∷ l) x ∙ sym (quick_plain Add (e ∷ []) h (omega arith) (omega arith)) in (
      wrote_as (canonical unicode16 (quick_add e)) (canonical unicode16 (quick_add e) ++ []) at r a d (sym (append-nil (canonical unicode16 (quick_add e))))
          (st.setting (quick_add e) a refl (quick_fits Add (e ∷ []) h (omega arith) (omega arith))
          (wrote_as ((65 ∷ []) ++ entry_bytes e) (plain (body unicode16 (quick_add e))) (at + 3) n a c y
          (wrote_both (65 ∷ []) (entry_bytes e) (at + 3) m n a b c v (w.wrote us (23, (k.0.text, k.1)))))),
      refl,
    )

-- all texts stand in the replace
pub quick_all : (os : List (Option Text)) (next : ℕ) → length os ≡ quick_places → next ≡ quick_places → drop 63 (entries 0 os) ≡ entries (0 + next) (drop next os) → drop 63 (entries 0 os) ≡ []
quick_all os next l e r = r ∙ ap (entries (0 + next)) (drop_of_length-le os {i = next} (omega arith))

-- or the last place is left
pub quick_left : (os : List (Option Text)) (next : ℕ) → length os ≡ quick_places → next ≡ 63 → drop 63 (entries 0 os) ≡ entries (0 + next) (drop next os)
    → drop 63 (entries 0 os) ≡ entries 63 (get_or os 63 none ∷ [])
quick_left os next l e r =
    r ∙ ap (λ (i : ℕ). entries (0 + i) (drop i os)) e
    ∙ ap (entries 63) (drop-cons os 63 none (omega arith) ∙ ap (λ (x : List (Option Text)). get_or os 63 none ∷ x) (drop_of_length-le os {i = quick_places} (omega arith)))

-- which is the slot there
pub quick_last : (region : List ℕ) (os : List (Option Text)) → QuicksIn region os → QuickIn (mid_of (63 * quick_width) quick_width region) (get_or os 63 none)
quick_last region os p = (
  all_get (Present QuickOk) os 63 none p.each (omega (arith, p.many)),
  place_read QuickOk quick_width quick_bytes quick_code.long quick_places os region p 63 (omega arith),
)

-- ---- the region

module _ (region s t v : List ℕ) (at z : ℕ) (r : Entries) (g : EntersAll quick_table region (at + 4) s t r) where
  -- the replace is all
  pub quick_done : r.next ≡ quick_places → ((os : List (Option Text)) → QuicksIn region os → Wrote (canonical unicode16 (quick_texts Replace (take 63 (entries 0 os)))) at s v z)
      → at ≤ z → z ≤ at + 3091 → WritesAll (QuicksIn region) quick_settings at 3144 s v (record { end = z; count = 1 })
  quick_done e w low high = record {
    writes = record { from = low; most = omega arith; wrote = all };
    counted = λ os p. ap (λ (x : List Entry). suc (length (map quick_add x))) (sym (rest os p));
  }
    where
      rest : (os : List (Option Text)) → QuicksIn region os → drop 63 (entries 0 os) ≡ []
      rest os p = quick_all os r.next p.many e (g.entered [] 23 os refl refl (quick_placed os region p)).rest

      all : (os : List (Option Text)) → QuicksIn region os → Wrote (canonical_all unicode16 (quick_settings os)) at s v z
      all os p =
          let c : List ℕ = canonical unicode16 (quick_texts Replace (take 63 (entries 0 os))) in
          wrote_as c (canonical_all unicode16 (quick_settings os)) at z s v
          (sym (append-nil c) ∙ ap (λ (x : List Entry). c ++ canonical_all unicode16 (map quick_add x)) (sym (rest os p))) (w os p)

  -- the last place may have an add
  pub quick_more : (after : List ℕ) (y : Settings) → (r.next ≡ quick_places → ⊥)
      → ((os : List (Option Text)) → QuicksIn region os → Wrote (canonical unicode16 (quick_texts Replace (take 63 (entries 0 os)))) at s v z)
      → WritesAll (QuickIn (mid_of (63 * quick_width) quick_width region)) last_quick z 53 v after y → at ≤ z → z ≤ at + 3091
      → WritesAll (QuicksIn region) quick_settings at 3144 s after (record { end = y.end; count = 1 + y.count })
  quick_more after y n w h low high = record {
    writes = record { from = omega (arith, h.writes.from); most = omega (arith, h.writes.most); wrote = all };
    counted = λ os p.
        let k : y.count ≡ length (last_quick (get_or os 63 none)) = h.counted (get_or os 63 none) (quick_last region os p) in
        omega (arith, k, ap (λ (x : List Entry). length (map quick_add x)) (rest os p));
  }
    where
      at_63 : r.next ≡ 63
      at_63 = let f : r.next < quick_places = omega (arith, g.within, n) in omega (arith, g.full f, g.passed)

      rest : (os : List (Option Text)) → QuicksIn region os → drop 63 (entries 0 os) ≡ entries 63 (get_or os 63 none ∷ [])
      rest os p = quick_left os r.next p.many at_63 (g.entered [] 23 os refl refl (quick_placed os region p)).rest

      all : (os : List (Option Text)) → QuicksIn region os → Wrote (canonical_all unicode16 (quick_settings os)) at s after y.end
      all os p =
          let c : List ℕ = canonical unicode16 (quick_texts Replace (take 63 (entries 0 os))) in
          let d : List ℕ = canonical_all unicode16 (last_quick (get_or os 63 none)) in
          wrote_as (c ++ d) (canonical_all unicode16 (quick_settings os)) at y.end s after (ap (λ (x : List Entry). c ++ canonical_all unicode16 (map quick_add x)) (sym (rest os p)))
          (wrote_both c d at z y.end s v after (w os p) (h.writes.wrote (get_or os 63 none) (quick_last region os p)))
