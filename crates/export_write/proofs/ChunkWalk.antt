-- A loop over the slots at the start of a region, as chunks of their width. Assumes nothing.
use Rattle.lists.proofs.Kit.{ℕ, suc, ◌+◌, ◌-◌, ◌*◌, ◌/◌, ◌≤◌, ◌<◌, ◌≡◌, sym, ap, ◌∙◌, subst, List, ◌++◌, arith, mid_of, length, length-append, length-drop, length-take-le, drop, take, take_all, take_at, take-append-le, drop_at, drop-drop, drop-append-le, take-append-drop, suc-mul, add-one, zero-mul, div-lt_iff_lt-mul}
use Rattle.std.proofs.Common.{Bor, Some}
use Rattle.std.specs.declared.iter.Enumerate.{Enumerate}
use Rattle.std.specs.declared.slice.ChunksExact.{ChunksExact}
use Rattle.std.specs.Slice.Iter.{chunks_exact_steps}

-- behind i chunks of w bytes of the first `used` bytes, this is what is left of these
pub record Chunked (region : List ℕ) (used w : ℕ) (it : ChunksExact ℕ) (i : ℕ) : Type 0 where
  pub within : used ≤ length region
  pub wide : it.size ≡ w
  pub low : i * w ≤ used
  pub left : it.rest.now ≡ drop (i * w) (take used region)

-- all of them are at the start
pub chunked_start : (region : List ℕ) (used w : ℕ) (all it : ChunksExact ℕ) → it ≡ all → used ≤ length region → all.rest.now ≡ take (used - 0) region → all.size ≡ w → Chunked region used w it 0
chunked_start region used w all it same h e k =
    subst (λ (z : ChunksExact ℕ). Chunked region used w z 0) (sym same)
    (record {
      within = h;
      wide = k;
      low = omega (arith, zero-mul w);
      left = e ∙ ap (λ n. take n region) (omega arith) ∙ ap (λ n. drop n (take used region)) (sym (zero-mul w));
    })

pub chunked_all : (region : List ℕ) (w : ℕ) (all it : ChunksExact ℕ) → it ≡ all → all.rest.now ≡ region → all.size ≡ w → Chunked region (length region) w it 0
chunked_all region w all it same e k =
    chunked_start region (length region) w all it same (omega arith) (e ∙ sym (ap (λ n. take n region) (omega arith) ∙ take_all (length region) region (omega arith))) k

-- and counted from 0
pub counted_start : (region : List ℕ) (w : ℕ) (all : ChunksExact ℕ) (e it : Enumerate (ChunksExact ℕ)) → it ≡ e → e.iter ≡ all → e.count ≡ 0 → all.rest.now ≡ region → all.size ≡ w
    → (it.count ≡ 0) × Chunked region (length region) w it.iter 0
counted_start region w all e it same source zero r k =
    (ap (λ (z : Enumerate (ChunksExact ℕ)). z.count) same ∙ zero, chunked_all region w all it.iter (ap (λ (z : Enumerate (ChunksExact ℕ)). z.iter) same ∙ source) r k)

module _ (region : List ℕ) (used w : ℕ) (it : ChunksExact ℕ) (i : ℕ) (c : Chunked region used w it i) where
  left_long : length it.rest.now ≡ used - i * w
  left_long = ap length c.left ∙ length-drop (i * w) (take used region) ∙ ap (λ (n : ℕ). n - i * w) (length-take-le used region c.within)

  -- none is left
  pub chunked_end : length it.rest.now < it.size → used / w ≤ i
  chunked_end h =
      let m : suc i * w ≡ i * w + w = suc-mul i w in
      let k : used / w < suc i = (div-lt_iff_lt-mul {k = w} {x = used} {y = suc i} (omega (arith, h, c.wide))).1 (omega (arith, left_long, m, h, c.wide, c.low)) in
      omega (arith, k)

  -- the next chunk
  module _ (x : Bor (List ℕ)) (next : ChunksExact ℕ) (s : chunks_exact_steps it (Some x) next) where
    pub chunk_long : length x.now ≡ w
    chunk_long = s.1.1 ∙ c.wide

    -- it is within them
    pub chunk_in : i * w + w ≤ used
    chunk_in = omega (arith, left_long, ap length s.1.0, length-append x.now next.rest.now, chunk_long, c.low)

    -- it is the region's slot there
    pub chunk_is : x.now ≡ mid_of (i * w) (i * w + w - i * w) region
    chunk_is =
        let n : i * w + w - i * w ≡ w = omega arith in
        let t : List ℕ = take used region in
        let d : drop (i * w) region ≡ it.rest.now ++ drop used region
        = ap (drop (i * w)) (sym (take-append-drop used region)) ∙ drop-append-le (i * w) t (drop used region) (omega (arith, length-take-le used region c.within, c.low))
        ∙ ap (λ (y : List ℕ). y ++ drop used region) (sym c.left) in
        sym (
        ap (λ (k : ℕ). take k (drop (i * w) region)) n ∙ ap (take w) d
        ∙ take-append-le w it.rest.now (drop used region) (omega (arith, left_long, chunk_in)) ∙ ap (take w) s.1.0 ∙ take_at x.now next.rest.now w chunk_long
        )

    -- and what is left behind it
    pub chunk_more : Chunked region used w next (i + 1)
    chunk_more =
        let m : (i + 1) * w ≡ i * w + w = ap (λ (j : ℕ). j * w) (add-one i) ∙ suc-mul i w in
        record {
          within = c.within;
          wide = s.0 ∙ c.wide;
          low = omega (arith, m, chunk_in);
          left = sym (drop_at x.now next.rest.now w chunk_long) ∙ ap (drop w) (sym s.1.0 ∙ c.left) ∙ drop-drop w (i * w) (take used region)
              ∙ ap (λ (k : ℕ). drop k (take used region)) (sym m);
        }
