-- A fresh store whose texts share an area has the bytes of one whose texts have places of their own. Assumes nothing.
use Rattle.lists.proofs.Kit.{ℕ, suc, ◌+◌, ◌*◌, ◌-◌, ◌≤◌, ◌≡◌, refl, sym, ap, ap₂, ◌∙◌, List, [], ◌∷◌, ◌++◌, map, arith, put_mid, length, set, replicate, replicate-append-replicate}
use Rattle.slots.specs.Slots.{flat, sum, u16}
use Rattle.slots.proofs.Pads.{pad_nil}
use Rattle.slots.proofs.Parts.{flat_zeros, parts_put}
use Rattle.slots.proofs.Tables.{places_nil}
use Rattle.tables.specs.declared.limits.Limits.{Limits}
use Rattle.tables.specs.Layout.{channel_width, count_size, key_at, key_size}
use Rattle.tables.specs.Limits.{quick_places, status_places, slot_places, contact_places}
use Rattle.tables.specs.Tables.{fresh}
use Rattle.tables.proofs.FreshLaws.{list_zeros, one_byte}
use Rattle.tables.specs.Heads.{text_halves, line_halves, member_halves, quick_head, status_head, line_head, group_head, individual_head, quick_own, status_own, member_own, line_own}
use Rattle.tables.specs.SharedLayout.{shared_size, shared_widths, shared_regions, shared_layout}

-- its regions are zeros, the key aside
fresh_regions : (lim : Limits) (a : ℕ) → shared_regions lim a fresh ≡ set (map (λ w. replicate w 0) (shared_widths lim a)) 1 (16 ∷ 0 ∷ 0 ∷ 0 ∷ [])
fresh_regions lim a =
    let q = places_nil (suc quick_own) (λ us. quick_head (text_halves.head us)) quick_places in
    let s = places_nil (suc status_own) (λ us. status_head (text_halves.head us)) status_places in
    let g = places_nil (suc member_own) (λ g. group_head (member_halves.head g)) slot_places in
    let j = places_nil (suc member_own) (λ g. individual_head (member_halves.head g)) slot_places in
    let d = places_nil (suc line_own) (λ l. line_head (line_halves.head l)) slot_places in
    let e = list_zeros (suc member_own) (λ g. group_head (member_halves.head g)) contact_places in
    let f = list_zeros (suc member_own) (λ g. individual_head (member_halves.head g)) contact_places in
    let c = list_zeros channel_width u16 lim.channels in
    let n : ℕ = lim.lines in
    let l = ap₂ (λ (x y : List ℕ). x ++ y) (list_zeros (suc line_own) (λ l. line_head (line_halves.head l)) n) (pad_nil 0 n) ∙ replicate-append-replicate (count_size + n * suc line_own) n 0 in
    let x = pad_nil {A = ℕ} 0 a in
    (λ i.
    replicate 11 0 ∷ (16 ∷ 0 ∷ 0 ∷ 0 ∷ []) ∷ replicate 4 0 ∷ replicate 3 0 ∷ q i ∷ s i ∷ g i ∷ j i ∷ d i ∷ e i ∷ f i ∷ c i ∷ l i ∷ x i
    ∷ replicate (lim.size - shared_size lim a) 0 ∷ [])

-- FRESH-SHARED-LAYOUT: it is all zeros, but for the key's flags, which say current
pub fresh_shared_layout : (lim : Limits) (a : ℕ) → shared_size lim a ≤ lim.size → shared_layout lim a fresh ≡ set (replicate lim.size 0) 11 16
unfolding shared_layout
fresh_shared_layout lim a r =
    let zs : List (List ℕ) = map (λ w. replicate w 0) (shared_widths lim a) in
    let e : sum (shared_widths lim a) ≡ lim.size = omega (arith, r) in
    ap flat (fresh_regions lim a)
    ∙ sym (parts_put zs (map length zs) refl 1 (omega arith) (16 ∷ 0 ∷ 0 ∷ 0 ∷ []))
    ∙ ap (λ (l : List ℕ). put_mid key_at key_size l (16 ∷ 0 ∷ 0 ∷ 0 ∷ [])) (flat_zeros (shared_widths lim a) ∙ ap (λ (k : ℕ). replicate k 0) e)
    ∙ one_byte lim.size (omega (arith, r))
