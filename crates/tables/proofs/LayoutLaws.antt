-- The bytes of tables whose texts have places of their own: every region has its width, the regions are bytes, and equal bytes are equal tables. Assumes nothing.
use Rattle.lists.proofs.Kit.{ℕ, suc, ◌+◌, ◌*◌, ◌-◌, ◌≤◌, ◌<◌, ◌≡◌, refl, sym, ap, ◌∙◌, false, List, [], ◌∷◌, ◌++◌, map, Option, arith, length, get_or, take, drop, length-append, length-replicate}
use Rattle.lists.specs.Bytes.{Bytes}
use Rattle.lists.proofs.Bytes.{bytes_zeros, bytes_append}
use Rattle.lists.specs.Every.{All}
use Rattle.lists.proofs.Seqs.{cut}
use Rattle.slots.specs.Slots.{places, front, u16, zeros?, Present, sum}
use Rattle.slots.proofs.Codes.{Code, places_one, list_one}
use Rattle.slots.proofs.Numbers.{u16_bytes}
use Rattle.slots.proofs.Pads.{pad_length}
use Rattle.slots.proofs.Parts.{flat_bytes, flat_length, parts_one}
use Rattle.slots.proofs.Tables.{all_front, front_length, places_bytes, places_length}
use Rattle.orders.specs.OrderParts.{order_bytes}
use Rattle.writing.specs.Ranges.{InChannel}
use Rattle.tables.specs.declared.limits.Limits.{Limits}
use Rattle.tables.specs.Allowed.{Allowed, QuickOk, StatusOk, GroupOk, IndividualOk, LineOk}
use Rattle.tables.specs.Forms.{Roomy}
use Rattle.tables.specs.Layout.{count_size, counted, ordered, regions, region_widths, used_size, placed_layout, quick_bytes, status_bytes, group_bytes, individual_bytes, line_bytes, quick_width, status_width, member_width, channel_width, line_width}
use Rattle.tables.specs.Limits.{placed, contact_places}
use Rattle.tables.specs.Order.{line_order}
use Rattle.tables.specs.Tables.{Line, Tables}
use Rattle.tables.proofs.EntryBytes.{quick_are_bytes, status_are_bytes, group_are_bytes, individual_are_bytes, channel_are_bytes, line_are_bytes, hash_are_bytes, key_are_bytes, home_are_bytes, system_are_bytes}
use Rattle.tables.proofs.EntryCodes.{quick_code, quick_shown, status_code, status_shown, group_code, group_shown, individual_code, individual_shown, channel_code, channel_shown, line_code, line_shown}
use Rattle.tables.proofs.FixedCodes.{hash_code, key_code, home_code, system_code}
use Rattle.tables.proofs.OrderLaws.{order_are_bytes}

-- ---- widths

-- an indexed table of n places
pub table_wide : {A : Type 0} {P : A → Type 0} {w : ℕ} {f : A → List ℕ} → Code P w f → (os : List (Option A)) (n : ℕ) → length os ≡ n → length (places w f os) ≡ n * w
table_wide {w = w} {f = f} k os n e = places_length w f k.long os ∙ ap (λ (i : ℕ). i * w) e

-- a list table with n places
pub list_wide : {A : Type 0} {P : A → Type 0} {w : ℕ} {f : A → List ℕ} → Code P w f → (n : ℕ) (xs : List A) → length (counted w f n xs) ≡ count_size + n * w
list_wide k n xs = omega (arith, table_wide k (front n xs) n (front_length n xs))

-- that of the lines with their order
lines_wide : (n : ℕ) (ls : List Line) → length (ordered n ls) ≡ count_size + n * line_width + n
lines_wide n ls = omega (arith, length-append (counted line_width line_bytes n ls) (order_bytes n (line_order ls)), list_wide line_code n ls, pad_length 0 n (map suc (line_order ls)))

-- REGIONS-WIDE: every region has its width
pub regions_wide : (lim : Limits) (t : Tables) → Allowed (placed lim) t → map length (regions lim t) ≡ region_widths lim ++ ((lim.size - used_size lim) ∷ [])
regions_wide lim t ok =
    let a = hash_code.long t.hash in
    let b = table_wide quick_code t.quick 64 ok.quick.0 in
    let c = table_wide status_code t.status 96 ok.status.0 in
    let d = table_wide group_code t.groups 16 ok.groups.0 in
    let e = table_wide individual_code t.individuals 16 ok.individuals.0 in
    let f = table_wide line_code t.line_slots 16 ok.line_slots.0 in
    let g = list_wide group_code contact_places t.group_contacts in
    let h = list_wide individual_code contact_places t.individual_contacts in
    let j = list_wide channel_code lim.channels t.channels in
    let k = lines_wide lim.lines t.lines in
    let z = length-replicate {A = ℕ} (lim.size - used_size lim) 0 in
    (λ i. a i ∷ 4 ∷ 4 ∷ 3 ∷ b i ∷ c i ∷ d i ∷ e i ∷ f i ∷ g i ∷ h i ∷ j i ∷ k i ∷ z i ∷ [])

-- PLACED-LENGTH: where the tables fit, their bytes fill the store
pub placed_length : (lim : Limits) (t : Tables) → Roomy lim → Allowed (placed lim) t → length (placed_layout lim t) ≡ lim.size
unfolding placed_layout
placed_length lim t r ok = omega (arith, r.fits, flat_length (regions lim t), ap sum (regions_wide lim t ok))

-- ---- bytes

-- a list table is bytes, where its count has two
pub list_bytes : {A : Type 0} (P : A → Type 0) (w : ℕ) (f : A → List ℕ) → ((a : A) → P a → Bytes (f a)) → (n : ℕ) (xs : List A) → n < 65536 → (length xs ≤ n) × All P xs → Bytes (counted w f n xs)
list_bytes P w f each n xs few ok =
    bytes_append (u16 (length xs)) (places w f (front n xs)) (u16_bytes (length xs) (omega (arith, ok.0))) (places_bytes P w f each (front n xs) (all_front P n xs ok.1))

-- PLACED-BYTES: they are bytes
pub placed_bytes : (lim : Limits) (t : Tables) → Roomy lim → Allowed (placed lim) t → Bytes (placed_layout lim t)
unfolding placed_layout
placed_bytes lim t r ok =
    let a = hash_are_bytes t.hash ok.hash in
    let b = key_are_bytes t.key ok.key in
    let c = home_are_bytes t.home ok.home in
    let d = system_are_bytes t.system ok.system in
    let e = places_bytes QuickOk quick_width quick_bytes quick_are_bytes t.quick ok.quick.1 in
    let f = places_bytes StatusOk status_width status_bytes status_are_bytes t.status ok.status.1 in
    let g = places_bytes GroupOk member_width group_bytes group_are_bytes t.groups ok.groups.1 in
    let h = places_bytes IndividualOk member_width individual_bytes individual_are_bytes t.individuals ok.individuals.1 in
    let i = places_bytes LineOk line_width line_bytes line_are_bytes t.line_slots ok.line_slots.1 in
    let j = list_bytes GroupOk member_width group_bytes group_are_bytes contact_places t.group_contacts (omega arith) ok.group_contacts in
    let k = list_bytes IndividualOk member_width individual_bytes individual_are_bytes contact_places t.individual_contacts (omega arith) ok.individual_contacts in
    let l = list_bytes InChannel channel_width u16 channel_are_bytes lim.channels t.channels r.few_channels ok.channels in
    let m = bytes_append (counted line_width line_bytes lim.lines t.lines) (order_bytes lim.lines (line_order t.lines))
    (list_bytes LineOk line_width line_bytes line_are_bytes lim.lines t.lines (omega (arith, r.few_lines)) ok.lines)
    (order_are_bytes lim.lines t.lines (omega (arith, r.few_lines, ok.lines.0)) ok.lines.1 ok.distinct) in
    let z = bytes_zeros (lim.size - used_size lim) in
    flat_bytes (regions lim t) (a, (b, (c, (d, (e, (f, (g, (h, (i, (j, (k, (l, (m, (z, tt))))))))))))))

-- ---- equal bytes are equal tables

-- an indexed table
pub table_one : {A : Type 0} {P : A → Type 0} {w : ℕ} {f : A → List ℕ} → Code P w f → ((a : A) → P a → zeros? (f a) ≡ false) → {n : ℕ} {os ps : List (Option A)}
    → (length os ≡ n) × All (Present P) os → (length ps ≡ n) × All (Present P) ps → places w f os ≡ places w f ps → os ≡ ps
table_one {P = P} {w = w} {f = f} k z {n} {os} {ps} p q e =
    places_one P w f k z n (places w f os) os ps (record { many = p.0; each = p.1; bytes = refl }) (record { many = q.0; each = q.1; bytes = e })

-- a list table: the count aside, its places tell it
pub list_table_one : {A : Type 0} {P : A → Type 0} {w : ℕ} {f : A → List ℕ} → Code P w f → ((a : A) → P a → zeros? (f a) ≡ false) → {n : ℕ} {xs ys : List A}
    → (length xs ≤ n) × All P xs → (length ys ≤ n) × All P ys → counted w f n xs ≡ counted w f n ys → xs ≡ ys
list_table_one {P = P} {w = w} {f = f} k z {n} {xs} {ys} p q e =
    list_one P w f k z n (places w f (front n xs)) xs ys (record { few = p.0; each = p.1; bytes = refl }) (record { few = q.0; each = q.1; bytes = ap (drop count_size) e })

-- PLACED-ONE: allowed tables that have the same bytes are the same
pub placed_one : (lim : Limits) (t u : Tables) → Allowed (placed lim) t → Allowed (placed lim) u → placed_layout lim t ≡ placed_layout lim u → t ≡ u
unfolding placed_layout
placed_one lim t u p q e =
    let r : regions lim t ≡ regions lim u = parts_one (regions lim t) (regions lim u) (regions_wide lim t p ∙ sym (regions_wide lim u q)) e in
    let at : (k : ℕ) → get_or (regions lim t) k [] ≡ get_or (regions lim u) k [] = λ k. ap (λ (l : List (List ℕ)). get_or l k []) r in
    let a = hash_code.one t.hash u.hash p.hash q.hash (at 0) in
    let b = key_code.one t.key u.key p.key q.key (at 1) in
    let c = home_code.one t.home u.home p.home q.home (at 2) in
    let d = system_code.one t.system u.system p.system q.system (at 3) in
    let f = table_one quick_code quick_shown p.quick q.quick (at 4) in
    let g = table_one status_code status_shown p.status q.status (at 5) in
    let h = table_one group_code group_shown p.groups q.groups (at 6) in
    let j = table_one individual_code individual_shown p.individuals q.individuals (at 7) in
    let k = table_one line_code line_shown p.line_slots q.line_slots (at 8) in
    let l = list_table_one group_code group_shown p.group_contacts q.group_contacts (at 9) in
    let m = list_table_one individual_code individual_shown p.individual_contacts q.individual_contacts (at 10) in
    let n = list_table_one channel_code channel_shown p.channels q.channels (at 11) in
    let o = list_table_one line_code line_shown p.lines q.lines
    (cut (counted line_width line_bytes lim.lines t.lines) (counted line_width line_bytes lim.lines u.lines)
    (list_wide line_code lim.lines t.lines ∙ sym (list_wide line_code lim.lines u.lines)) (at 12)).0 in
    (λ i. record {
      hash = a i;
      key = b i;
      home = c i;
      system = d i;
      quick = f i;
      status = g i;
      groups = h i;
      individuals = j i;
      line_slots = k i;
      group_contacts = l i;
      individual_contacts = m i;
      channels = n i;
      lines = o i;
    })
