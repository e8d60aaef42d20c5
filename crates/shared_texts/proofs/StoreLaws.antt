-- A store of regions whose texts share one area: it has its length, is bytes and tells the regions, and checks of its heads and of its area decide which bytes are one. Assumes nothing.
use Rattle.lists.proofs.Kit.{ℕ, ◌+◌, ◌-◌, ◌*◌, ◌≤◌, ◌<◌, ◌≡◌, sym, ap, ap₂, ◌∙◌, subst, true, ◌↔◌, List, ◌∷◌, ◌++◌, map, map-append, append_assoc, arith, mid_of, length, take, drop, replicate, length-append, length-drop, length-replicate, take-append-drop, take_at, drop_at, drop-drop, length-take-le}
use Rattle.lists.specs.Bytes.{Bytes}
use Rattle.lists.proofs.Bytes.{all_bytes, bytes_all, bytes_append, bytes_drop, bytes_take, bytes_zeros}
use Rattle.lists.specs.Every.{All}
use Rattle.lists.proofs.Every.{all_map}
use Rattle.lists.proofs.Seqs.{cut as cut_alike}
use Rattle.slots.specs.Slots.{flat, u16, zeros?, EntryOf, sum}
use Rattle.slots.proofs.Numbers.{u16_bytes}
use Rattle.slots.proofs.Pads.{pad_all}
use Rattle.slots.proofs.Parts.{flat_append, flat_bytes, get_part}
use Rattle.slots.proofs.Runs.{zeros_all, zeros_are}
use Rattle.writing.specs.Settings.{Text}
use Rattle.tables.proofs.TextLaws.{Unit16}
use Rattle.shared_texts.specs.Regions.{Region, whole, Stand, units_from}
use Rattle.tables.specs.Texts.{unit_bytes, units_of, area, cut, AreaFilled}
use Rattle.shared_texts.proofs.Cuts.{area_filled, area_is, area_length, cut_area, cut_lengths, cut_texts, filled_units, texts_length, unit_bytes_length}
use Rattle.shared_texts.proofs.RegionLaws.{Lawful, AllLawful, AreBytes, whole_lawful}
use Rattle.shared_texts.proofs.StandLaws.{stand_all, units_all}

-- a region's heads, an area of a bytes with its texts, and z zeros
abbrev pub stored : (p : Region) → ℕ → ℕ → p.Own → List ℕ
stored p a z x = p.bytes (p.head x) ++ (area a (p.texts x) ++ replicate z 0)

-- what a region may hold where its texts have to fit an area of a bytes
abbrev pub Fits : (p : Region) → ℕ → p.Own → Type 0
Fits p a x = p.Ok x × (2 * units_of (p.texts x) ≤ a)

-- an area of texts is bytes
pub area_bytes : (a : ℕ) (ts : List Text) → All (All Unit16) ts → Bytes (area a ts)
area_bytes a ts p =
    all_bytes (area a ts) (pad_all 0 (◌< 256) (omega arith) a (flat (map unit_bytes ts)) (bytes_all (flat (map unit_bytes ts))
    (flat_bytes (map unit_bytes ts) (all_map (All Unit16) Bytes unit_bytes (λ us q. flat_bytes (map u16 us) (all_map Unit16 Bytes u16 (λ u h. u16_bytes u h.1) us q)) ts p))))

module _ (p : Region) (l : Lawful p) (a z : ℕ) where
  -- how long it is
  pub stored_length : (x : p.Own) → p.Ok x → length (stored p a z x) ≡ p.wide + (a + z)
  stored_length x o =
      omega (
        arith,
        length-append (p.bytes (p.head x)) (area a (p.texts x) ++ replicate z 0),
        length-append (area a (p.texts x)) (replicate z 0),
        l.wide (p.head x) (l.head_ok x o),
        area_length a (p.texts x),
        length-replicate {A = ℕ} z 0,
      )

  -- it is bytes
  pub stored_bytes : AreBytes p → (x : p.Own) → p.Ok x → Bytes (stored p a z x)
  stored_bytes b x o =
      bytes_append (p.bytes (p.head x)) (area a (p.texts x) ++ replicate z 0) (b (p.head x) (l.head_ok x o))
      (bytes_append (area a (p.texts x)) (replicate z 0) (area_bytes a (p.texts x) (l.texts_ok x o)) (bytes_zeros z))

  -- it tells the region: equal heads count alike, so equal areas are cut alike
  pub stored_one : (x y : p.Own) → Fits p a x → Fits p a y → stored p a z x ≡ stored p a z y → x ≡ y
  stored_one x y o r e =
      let c = cut_alike (p.bytes (p.head x)) (p.bytes (p.head y)) (l.wide (p.head x) (l.head_ok x o.0) ∙ sym (l.wide (p.head y) (l.head_ok y r.0))) e in
      let h : p.head x ≡ p.head y = l.one (p.head x) (p.head y) (l.head_ok x o.0) (l.head_ok y r.0) c.0 in
      let d : area a (p.texts x) ≡ area a (p.texts y) = (cut_alike (area a (p.texts x)) (area a (p.texts y)) (area_length a (p.texts x) ∙ sym (area_length a (p.texts y))) c.1).0 in
      let n : map length (p.texts x) ≡ map length (p.texts y) = l.long x ∙ ap p.counts h ∙ sym (l.long y) in
      let t : p.texts x ≡ p.texts y = sym (cut_texts a (p.texts x) o.1) ∙ ap₂ cut n d ∙ cut_texts a (p.texts y) r.1 in
      sym (l.again x) ∙ ap₂ p.fill h t ∙ l.again y

  -- a text stands behind the heads and the texts before it
  pub stored_text : (x : p.Own) → Fits p a x → (xs ys : List Text) (us : Text) → p.texts x ≡ xs ++ (us ∷ ys) → mid_of (p.wide + 2 * units_of xs) (2 * length us) (stored p a z x) ≡ unit_bytes us
  stored_text x o xs ys us e =
      let h : List ℕ = p.bytes (p.head x) in
      let b : List ℕ = flat (map unit_bytes xs) in
      let c : List ℕ = flat (map unit_bytes ys) in
      let d : List ℕ = replicate (a - 2 * units_of (p.texts x)) 0 in
      let f : flat (map unit_bytes (p.texts x)) ≡ b ++ (unit_bytes us ++ c) = ap (λ (ts : List Text). flat (map unit_bytes ts)) e ∙ ap flat (map-append unit_bytes xs (us ∷ ys)) ∙ flat_append (map unit_bytes xs) (map unit_bytes (us ∷ ys)) in
      let s : stored p a z x ≡ (h ++ b) ++ (unit_bytes us ++ (c ++ (d ++ replicate z 0)))
      = ap (λ (l : List ℕ). h ++ (l ++ replicate z 0)) (area_is a (p.texts x) o.1 ∙ ap (λ (l : List ℕ). l ++ d) f) ∙ simp append_assoc in
      ap (mid_of (p.wide + 2 * units_of xs) (2 * length us)) s
      ∙ get_part (h ++ b) (unit_bytes us) (c ++ (d ++ replicate z 0)) (p.wide + 2 * units_of xs) (2 * length us)
      (length-append h b ∙ ap₂ (λ (i j : ℕ). i + j) (l.wide (p.head x) (l.head_ok x o.0)) (texts_length xs)) (unit_bytes_length us)

  -- ---- which bytes are one

  module _ (s : List ℕ) where
    -- heads as they have to be, and as many units in the area as they count, make a region
    pub stored_made : length s ≡ p.wide + (a + z) → Bytes s → (h : EntryOf p.HeadOk p.bytes (mid_of 0 p.wide s)) → AreaFilled (sum (p.counts h.entry)) (mid_of p.wide a s) → zeros? (drop (p.wide + a) s) ≡ true → EntryOf (Fits p a) (stored p a z) s
    stored_made n b h f c =
        let w : ℕ = p.wide in
        let ns : List ℕ = p.counts h.entry in
        let r : List ℕ = mid_of w a s in
        let ts : List Text = cut ns r in
        let i : length r ≡ a = length-take-le a (drop w s) (omega (arith, length-drop w s)) in
        let k : length (drop (w + a) s) ≡ z = omega (arith, length-drop (w + a) s) in
        let e : map length ts ≡ ns = cut_lengths ns r in
        let rb : Bytes r = bytes_take a (drop w s) (bytes_drop w s b) in
        let u : All (All Unit16) ts = filled_units ns r rb f in
        let g : r ≡ area a ts = cut_area ns r rb f.room f.rest ∙ ap (λ (j : ℕ). area j ts) i in
        let v : drop (w + a) s ≡ replicate z 0 = zeros_are (drop (w + a) s) c ∙ ap (λ (j : ℕ). replicate j 0) k in
        let d : s ≡ take w s ++ (r ++ drop (w + a) s)
        = sym (take-append-drop w s) ∙ ap (λ (l : List ℕ). take w s ++ l) (sym (take-append-drop a (drop w s)) ∙ ap (λ (l : List ℕ). r ++ l) (drop-drop a w s)) in
        record {
          entry = p.fill h.entry ts;
          holds = (l.own_ok h.entry ts h.holds u e, subst (λ (m : List Text). 2 * units_of m ≤ a) (sym (l.texts_back h.entry ts e)) (omega (arith, ap sum e, f.room)));
          bytes = d
              ∙ ap₂ (λ (m q : List ℕ). m ++ q) (h.bytes ∙ ap p.bytes (sym (l.head_back h.entry ts e)))
              (ap₂ (λ (m q : List ℕ). m ++ q) (g ∙ ap (area a) (sym (l.texts_back h.entry ts e))) v);
        }

    module _ (x : p.Own) (o : Fits p a x) (e : s ≡ stored p a z x) where
      -- the heads stand in front
      pub stored_heads : mid_of 0 p.wide s ≡ p.bytes (p.head x)
      stored_heads = ap (take p.wide) e ∙ take_at (p.bytes (p.head x)) (area a (p.texts x) ++ replicate z 0) p.wide (l.wide (p.head x) (l.head_ok x o.0))

      -- the area and zeros stand behind them
      stored_rest : drop p.wide s ≡ area a (p.texts x) ++ replicate z 0
      stored_rest = ap (drop p.wide) e ∙ drop_at (p.bytes (p.head x)) (area a (p.texts x) ++ replicate z 0) p.wide (l.wide (p.head x) (l.head_ok x o.0))

      -- the area
      pub stored_area : mid_of p.wide a s ≡ area a (p.texts x)
      stored_area = ap (take a) stored_rest ∙ take_at (area a (p.texts x)) (replicate z 0) a (area_length a (p.texts x))

      -- and the zeros
      pub stored_spare : zeros? (drop (p.wide + a) s) ≡ true
      stored_spare =
          ap zeros? (sym (drop-drop a p.wide s) ∙ ap (drop a) stored_rest ∙ drop_at (area a (p.texts x)) (replicate z 0) a (area_length a (p.texts x)))
          ∙ zeros_all z

      -- the heads count the units of the texts
      pub stored_units : p.units (mid_of 0 p.wide s) ≡ units_of (p.texts x)
      stored_units = ap p.units stored_heads ∙ l.summed (p.head x) (l.head_ok x o.0) ∙ ap sum (sym (l.long x))

      -- as many stand in the area
      pub stored_filled : AreaFilled (p.units (mid_of 0 p.wide s)) (mid_of p.wide a s)
      stored_filled =
          subst (AreaFilled (p.units (mid_of 0 p.wide s))) (sym stored_area)
          (subst (λ (n : ℕ). AreaFilled n (area a (p.texts x))) (sym stored_units) (area_filled a (p.texts x) o.1 (l.texts_ok x o.0)))

-- REGIONS-STORE: bytes are those of regions whose texts fit exactly if each region's heads stand in their bytes, the units that they count in the area, and zeros behind
pub regions_store : (ps : List Region) → AllLawful ps → (a z : ℕ) (s : List ℕ) → length s ≡ (whole ps).wide + (a + z) → Bytes s
    → (Stand ps 0 s × AreaFilled (units_from ps 0 s) (mid_of (whole ps).wide a s) × (zeros? (drop ((whole ps).wide + a) s) ≡ true)) ↔ EntryOf (Fits (whole ps) a) (stored (whole ps) a z) s
regions_store ps k a z s n b =
    let p = whole ps in
    let l = whole_lawful ps k in
    let t = stand_all ps k 0 s in (
      λ c.
          let h = t.0 c.0 in
          let u : units_from ps 0 s ≡ sum (p.counts h.entry) = units_all ps 0 s ∙ ap p.units h.bytes ∙ l.summed h.entry h.holds in
          stored_made p l a z s n b h (subst (λ (m : ℕ). AreaFilled m (mid_of p.wide a s)) u c.1) c.2,
      λ x.
          let o = x.holds in (
            t.1 (record { entry = p.head x.entry; holds = l.head_ok x.entry o.0; bytes = stored_heads p l a z s x.entry o x.bytes }),
            subst (λ (m : ℕ). AreaFilled m (mid_of p.wide a s)) (sym (units_all ps 0 s)) (stored_filled p l a z s x.entry o x.bytes),
            stored_spare p l a z s x.entry o x.bytes,
          ),
    )
