-- Writes one after the other, and a head written before what follows it. Assumes nothing.
use Rattle.lists.proofs.Kit.{ℕ, ◌+◌, ◌-◌, ◌≤◌, ◌<◌, ◌≡◌, refl, sym, ap, ap₂, ◌∙◌, subst, List, [], ◌∷◌, ◌++◌, append_assoc, append-nil, arith, mid_of, put_mid, mid_len, length, take, drop, set, length-append, length-drop, take-append-drop, add-zero, add-one, take_at, drop_at, take-append-le, drop-drop, length-take-le, take-take, set_split}
use Rattle.slots.proofs.Runs.{copy_whole}
use Rattle.export_write.specs.Writers.{Wrote}

-- a write keeps the buffer's length
pub wrote_length : (b : List ℕ) (at r : ℕ) (s t : List ℕ) → Wrote b at s t r → length t ≡ length s
wrote_length b at r s t w =
    let n : ℕ = at + length b in
    let f : n ≤ length s = w.fits in
    let e : length t ≡ length (take at s ++ (b ++ drop n s)) = ap length w.content in
    omega (arith, e, length-append (take at s) (b ++ drop n s), length-append b (drop n s), length-take-le at s (omega arith), length-drop n s)

-- what stands before and after it
module _ (b : List ℕ) (at r : ℕ) (s t : List ℕ) (w : Wrote b at s t r) where
  n : ℕ
  n = at + length b

  start_long : length (take at s) ≡ at
  start_long = length-take-le at s (omega (arith, w.fits))

  -- the start and the bytes
  pub wrote_take : take r t ≡ take at s ++ b
  wrote_take =
      let f : at + length b ≤ length s = w.fits in
      let l : length (take at s ++ b) ≡ r = omega (arith, length-append (take at s) b, start_long, w.next) in
      ap (take r) (w.content ∙ sym (append_assoc (take at s) b (drop (at + length b) s))) ∙ take_at (take at s ++ b) (drop (at + length b) s) r l

  -- what stayed after them
  pub wrote_drop : drop r t ≡ drop r s
  wrote_drop =
      let l : length (take at s ++ b) ≡ r = omega (arith, length-append (take at s) b, start_long, w.next) in
      ap (drop r) (w.content ∙ sym (append_assoc (take at s) b (drop (at + length b) s))) ∙ drop_at (take at s ++ b) (drop (at + length b) s) r l
      ∙ ap (λ (k : ℕ). drop k s) (sym w.next)

-- WROTE-BOTH: two writes, one after the other, are one
pub wrote_both : (a b : List ℕ) (at m r : ℕ) (s t u : List ℕ) → Wrote a at s t m → Wrote b m t u r → Wrote (a ++ b) at s u r
wrote_both a b at m r s t u v w =
    let la : length (a ++ b) ≡ length a + length b = length-append a b in
    let lt : length t ≡ length s = wrote_length a at m s t v in
    let mv : m ≡ at + length a = v.next in
    let fw : m + length b ≤ length t = w.fits in
    let k : at + length (a ++ b) ≡ m + length b = omega arith in
    let d : drop (m + length b) t ≡ drop (at + length (a ++ b)) s
    = sym (drop-drop (length b) m t) ∙ ap (drop (length b)) (wrote_drop a at m s t v) ∙ drop-drop (length b) m s ∙ ap (λ (i : ℕ). drop i s) (sym k) in
    record {
      fits = omega arith;
      content = w.content ∙ ap₂ (λ (x y : List ℕ). x ++ (b ++ y)) (wrote_take a at m s t v) d
          ∙ append_assoc (take at s) a (b ++ drop (at + length (a ++ b)) s)
          ∙ ap (λ (x : List ℕ). take at s ++ x) (sym (append_assoc a b (drop (at + length (a ++ b)) s)));
      next = omega (arith, w.next);
    }

-- WROTE-BEFORE: bytes written before what was written is one write too
pub wrote_before : (a b : List ℕ) (at m r : ℕ) (s t u : List ℕ) → Wrote b m s t r → Wrote a at t u m → Wrote (a ++ b) at s u r
wrote_before a b at m r s t u v w =
    let la : length (a ++ b) ≡ length a + length b = length-append a b in
    let lt : length t ≡ length s = wrote_length b m r s t v in
    let mv : m ≡ at + length a = w.next in
    let fv : m + length b ≤ length s = v.fits in
    let k : at + length (a ++ b) ≡ m + length b = omega arith in
    let lm : length (take m s) ≡ m = length-take-le m s (omega arith) in
    let tk : take at t ≡ take at s
    = ap (take at) v.content ∙ take-append-le at (take m s) (b ++ drop (m + length b) s) (omega arith) ∙ take-take at m s (omega arith) in
    let dr : drop (at + length a) t ≡ b ++ drop (at + length (a ++ b)) s
    = ap (drop (at + length a)) v.content ∙ drop_at (take m s) (b ++ drop (m + length b) s) (at + length a) (omega arith)
    ∙ ap (λ (i : ℕ). b ++ drop i s) (sym k) in
    record {
      fits = omega arith;
      content = w.content ∙ ap₂ (λ (x y : List ℕ). x ++ (a ++ y)) tk dr
          ∙ ap (λ (x : List ℕ). take at s ++ x) (sym (append_assoc a b (drop (at + length (a ++ b)) s)));
      next = omega (arith, v.next);
    }

-- nothing written
pub wrote_none : (at : ℕ) (s : List ℕ) → at ≤ length s → Wrote [] at s s at
wrote_none at s h = record { fits = omega arith; content = rw add-zero (sym (take-append-drop at s)); next = omega arith }

-- equal bytes
pub wrote_as : (a b : List ℕ) (at r : ℕ) (s t : List ℕ) → a ≡ b → Wrote a at s t r → Wrote b at s t r
wrote_as a b at r s t e w = subst (λ (x : List ℕ). Wrote x at s t r) e w

-- bytes copied into their region of the buffer
pub wrote_copied : (b : List ℕ) (at : ℕ) (s y : List ℕ) → at + length b ≤ length s
    → y ≡ take (length (mid_of at (at + length b - at) s)) b ++ drop (length b) (mid_of at (at + length b - at) s)
    → Wrote b at s (put_mid at (at + length b - at) s y) (at + length b)
wrote_copied b at s y h e =
    let l : length (mid_of at (at + length b - at) s) ≡ length b = mid_len at (at + length b) s h ∙ omega arith in
    let is : y ≡ b = e ∙ copy_whole b (mid_of at (at + length b - at) s) l in
    let k : at + length b - at ≡ length b = omega arith in
    let d : drop (at + length b - at) (drop at s) ≡ drop (at + length b) s = ap (λ (i : ℕ). drop i (drop at s)) k ∙ drop-drop (length b) at s in
    record {
      fits = h;
      content = ap₂ (λ (x z : List ℕ). take at s ++ (x ++ z)) is d;
      next = refl;
    }

-- one byte stored
pub wrote_one : (x at : ℕ) (s : List ℕ) → at < length s → Wrote (x ∷ []) at s (set s at x) (at + 1)
wrote_one x at s h = record {
  fits = omega arith;
  content = rw add-one (set_split s at x h);
  next = refl;
}

-- ---- a walk that writes

-- of all that is to be written, what is left
pub record Writing (all : List ℕ) (at : ℕ) (before after : List ℕ) (r : ℕ) (left : List ℕ) : Type 0 where
  pub done : List ℕ
  pub wrote : Wrote done at before after r
  pub whole : all ≡ done ++ left

-- nothing is written yet
pub writing_start : (all : List ℕ) (at : ℕ) (s : List ℕ) → at ≤ length s → Writing all at s s at all
writing_start all at s h = record { done = []; wrote = wrote_none at s h; whole = refl }

-- the next bytes are written
pub writing_more : (all : List ℕ) (at m r : ℕ) (s t u : List ℕ) (left x rest : List ℕ) → Writing all at s t m left → left ≡ x ++ rest → Wrote x m t u r
    → Writing all at s u r rest
writing_more all at m r s t u left x rest g e w = record {
  done = g.done ++ x;
  wrote = wrote_both g.done x at m r s t u g.wrote w;
  whole = g.whole ∙ ap (λ (l : List ℕ). g.done ++ l) e ∙ sym (append_assoc g.done x rest);
}

-- nothing is left
pub writing_end : (all : List ℕ) (at r : ℕ) (s t left : List ℕ) → Writing all at s t r left → left ≡ [] → Wrote all at s t r
writing_end all at r s t left g e =
    wrote_as g.done all at r s t (sym (g.whole ∙ ap (λ (l : List ℕ). g.done ++ l) e ∙ append-nil g.done)) g.wrote
