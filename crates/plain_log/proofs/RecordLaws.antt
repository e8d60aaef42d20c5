-- One request of an area: read where it stands, it is the one that stands there. Assumes nothing.
use Rattle.lists.proofs.Kit.{ℕ, ◌≤◌, ◌<◌, ◌+◌, ◌*◌, ◌-◌, ◌/◌, ◌%◌, suc, ◌≡◌, refl, sym, ap, ap₂, ◌∙◌, subst, List, [], ◌∷◌, ◌++◌, map, append_assoc, length, drop, take, get_or, length-append, length-drop, length-take-le, take-append-drop, take_at, drop-drop, drop-cons, drop-append-le, get_or-drop, get_or-take, add-zero, add-one, mul_comm, arith, mid_of}
use Rattle.lists.specs.Bytes.{Bytes}
use Rattle.slots.specs.Slots.{u16}
use Rattle.slots.proofs.Numbers.{u16_of}
use Rattle.writing.specs.declared.Coding.{Coding}
use Rattle.writing.specs.Carrier.{coding_type, first_byte, Counted, RequestOf}
use Rattle.writing.specs.Fields.{Field, val, widths}
use Rattle.writing.specs.Settings.{Setting, Hash}
use Rattle.writing.specs.Writing.{request_head}
use Rattle.writing.proofs.Bits.{widths_map}
use Rattle.read_fields.specs.Places.{FieldsAt, be}
use Rattle.read_fields.specs.declared.hashes.HashPlace.{HashPlace}
use Rattle.read_fields.proofs.Heads.{Cut, head_out}
use Rattle.read_fields.proofs.Parts.{nothing}
use Rattle.read_carrier.proofs.CarrierLaws.{wide_bytes, one_byte, carries_out}
use Rattle.read_deeds.specs.Cursors.{Standing}
use Rattle.plain_judge.specs.Judging.{HashStands}
use Rattle.plain_log.specs.Area.{record_bytes}

-- ---- the frame of a request

-- two bytes and what follows them
pub two_first : (s : List ℕ) (at : ℕ) → at + 2 ≤ length s → drop at s ≡ get_or s at 0 ∷ get_or s (at + 1) 0 ∷ drop (at + 2) s
two_first s at h =
    let one : suc at ≡ at + 1 = sym (add-one at) in
    let two : suc (at + 1) ≡ at + 2 = omega arith in
    drop-cons s at 0 (omega (arith, h))
    ∙ ap (λ (i : ℕ). get_or s at 0 ∷ drop i s) one
    ∙ ap (λ (l : List ℕ). get_or s at 0 ∷ l) (drop-cons s (at + 1) 0 (omega (arith, h)) ∙ ap (λ (i : ℕ). get_or s (at + 1) 0 ∷ drop i s) two)

module _ (s : List ℕ) (at size : ℕ) where
  -- the bytes behind a length, where it and they are there
  pub frame_long : at + 2 + size ≤ length s → length (mid_of (at + 2) size s) ≡ size
  frame_long h = length-take-le size (drop (at + 2) s) (omega (arith, h, length-drop (at + 2) s))

  -- what follows a place behind its length
  pub frame_rest : drop (at + 2) s ≡ mid_of (at + 2) size s ++ drop (at + 2 + size) s
  frame_rest = sym (take-append-drop size (drop (at + 2) s)) ∙ ap (λ (l : List ℕ). mid_of (at + 2) size s ++ l) (drop-drop size (at + 2) s)

  -- a length and as many bytes are a record
  pub frame_read : Bytes s → at + 2 + size ≤ length s → size ≡ get_or s at 0 * 256 + get_or s (at + 1) 0 → drop at s ≡ record_bytes (mid_of (at + 2) size s) ++ drop (at + 2 + size) s
  frame_read b h e =
      let two : u16 (length (mid_of (at + 2) size s)) ≡ get_or s at 0 ∷ get_or s (at + 1) 0 ∷ [] = ap u16 (frame_long h ∙ e) ∙ u16_of (get_or s at 0) (get_or s (at + 1) 0) (b (at + 1)) in
      two_first s at (omega (arith, h))
      ∙ ap₂ (λ (x y : List ℕ). x ++ y) (sym two) frame_rest
      ∙ sym (append_assoc (u16 (length (mid_of (at + 2) size s))) (mid_of (at + 2) size s) (drop (at + 2 + size) s))

-- a record that stands somewhere is what is read there
pub frame_one : (s : List ℕ) (at : ℕ) (m rest : List ℕ) → drop at s ≡ record_bytes m ++ rest
    → (get_or s at 0 * 256 + get_or s (at + 1) 0 ≡ length m) × (at + 2 + length m ≤ length s) × (mid_of (at + 2) (length m) s ≡ m)
frame_one s at m rest e =
    let n = length m in
    let a : get_or s at 0 ≡ n / 256 = ap (λ (i : ℕ). get_or s i 0) (sym (add-zero at)) ∙ sym (get_or-drop at s 0 0) ∙ ap (λ (l : List ℕ). get_or l 0 0) e in
    let b : get_or s (at + 1) 0 ≡ n % 256 = sym (get_or-drop at s 1 0) ∙ ap (λ (l : List ℕ). get_or l 1 0) e in
    let l : length s - at ≡ 2 + (n + length rest) = sym (length-drop at s) ∙ ap length e ∙ ap (λ (i : ℕ). suc (suc i)) (length-append m rest) ∙ omega arith in
    let d : drop (at + 2) s ≡ m ++ rest = sym (drop-drop 2 at s) ∙ ap (drop 2) e in
    (omega (arith, a, b), omega (arith, l), ap (take n) d ∙ take_at m rest n refl)

-- ---- fields in a part of the area

module _ (s m rest : List ℕ) (start : ℕ) (part : drop start s ≡ m ++ rest) where
  -- fields in the part stand in the whole
  shift_fields : (fs : List Field) (from next : ℕ) → from ≤ length m → FieldsAt fs m from next → FieldsAt fs s (start + from) (start + next) × (next ≤ length m)
  shift_fields fs from next h p =
      let e : length m - from ≡ length p.bytes + length p.rest = sym (length-drop from m) ∙ ap length p.split ∙ length-append p.bytes p.rest in (
        record {
          bytes = p.bytes;
          rest = p.rest ++ rest;
          split = sym (drop-drop from start s) ∙ ap (drop from) part ∙ drop-append-le from m rest h ∙ ap (λ (l : List ℕ). l ++ rest) p.split ∙ append_assoc p.bytes p.rest rest;
          ends = omega (arith, p.ends);
          written = p.written;
        },
        omega (arith, e, p.ends, h),
      )

  -- so do settings
  pub shift_standing : (c : Coding) (from : ℕ) (l : List Setting) (end : ℕ) → from ≤ length m → Standing c m from l end → Standing c s (start + from) l (start + end)
  shift_standing c from [] end h e = ap (λ (i : ℕ). start + i) e
  shift_standing c from (x ∷ l) end h (next, r, p, q) =
      let (z, k) = shift_fields _ from next h p in
      (start + next, r, z, shift_standing c next l end k q)

  -- bytes in the part, and none anywhere
  shift_bytes : (v : List ℕ) (from to : ℕ) → (from ≤ length m → to ≡ start + from) → FieldsAt (map (val 8) v) m from (from + length v) → FieldsAt (map (val 8) v) s to (to + length v)
  shift_bytes [] from to e p = subst (FieldsAt [] s to) (sym (add-zero to)) (nothing s to)
  shift_bytes (x ∷ v) from to e p =
      let w : widths (map (val 8) (x ∷ v)) ≡ 8 * length (x ∷ v) = widths_map (val 8) 8 (λ u. refl) (x ∷ v) ∙ mul_comm (length (x ∷ v)) 8 in
      let k : length p.bytes ≡ suc (length v) = wide_bytes (map (val 8) (x ∷ v)) (length (x ∷ v)) p.bytes w p.written in
      let g : length m - from ≡ length p.bytes + length p.rest = sym (length-drop from m) ∙ ap length p.split ∙ length-append p.bytes p.rest in
      let h : from ≤ length m = omega (arith, k, g) in
      moved (sym (e h)) (shift_fields (map (val 8) (x ∷ v)) from (from + length (x ∷ v)) h p).0
    where
      -- to another name of the place
      moved : {a : ℕ} → start + from ≡ a → FieldsAt (map (val 8) (x ∷ v)) s (start + from) (start + (from + length (x ∷ v))) → FieldsAt (map (val 8) (x ∷ v)) s a (a + length (x ∷ v))
      moved {a} f q =
          subst (λ (i : ℕ). FieldsAt (map (val 8) (x ∷ v)) s i (i + length (x ∷ v))) f
          (subst (FieldsAt (map (val 8) (x ∷ v)) s (start + from)) (omega arith) q)

  -- so does a hash
  pub shift_hash : (p q : HashPlace) (h : Hash) → q.code ≡ p.code → (p.start ≤ length m → q.start ≡ start + p.start) → HashStands m p h → HashStands s q h
  shift_hash p q h c e x = record { code = c ∙ x.code; size = x.size; stands = shift_bytes h.value p.start q.start e x.stands }

-- ---- the bytes of a request

-- the count is its eighth byte
counted_byte : (m : List ℕ) (count : ℕ) (settings : List ℕ) → Bytes m → Counted count settings (drop 6 m) → (8 ≤ length m) × (get_or m 7 0 ≡ count)
counted_byte m count settings b k =
    let n : length k.head ≡ 2 = wide_bytes (request_head count) 2 k.head refl k.says in
    let p : FieldsAt (first_byte 1 0 ++ val 8 count ∷ []) m 6 8 = record { bytes = k.head; rest = settings; split = k.parts; ends = omega (arith, n); written = k.says } in
    let (r, c, q) = head_out (first_byte 1 0) (val 8 count ∷ []) m 6 1 refl (omega arith) b 8 p in
    let (r', c', q') = head_out (val 8 count ∷ []) [] m 7 1 refl (omega arith) b 8 q in
    let d = subst (Cut (val 8 count ∷ [])) (one_byte m 7 (omega (arith, r'))) c' in
    (r', omega (arith, d.0, b 7))

-- the low half of the last of four bytes
low_half : (m : List ℕ) → 6 ≤ length m → be 0 (take 4 (drop 2 m)) % 16 ≡ get_or m 5 0 % 16
low_half [] h = absurd (omega (arith, h))
low_half (a ∷ []) h = absurd (omega (arith, h))
low_half (a ∷ b ∷ []) h = absurd (omega (arith, h))
low_half (a ∷ b ∷ c ∷ []) h = absurd (omega (arith, h))
low_half (a ∷ b ∷ c ∷ d ∷ []) h = absurd (omega (arith, h))
low_half (a ∷ b ∷ c ∷ d ∷ e ∷ []) h = absurd (omega (arith, h))
low_half (a ∷ b ∷ c ∷ d ∷ e ∷ f ∷ m) h = omega arith

-- the coding type is in its sixth, and the count in its eighth
pub request_at : (c : Coding) (count : ℕ) (settings m : List ℕ) → Bytes m → RequestOf c count settings m → (8 ≤ length m) × (get_or m 5 0 % 16 ≡ coding_type c) × (get_or m 7 0 ≡ count)
request_at c count settings m b r =
    let (k, e) = carries_out m b {N = be 0 (take 4 (drop 2 m))} refl (coding_type c) r.data_bytes r.carried in
    let (long, n) = counted_byte m count settings b (subst (Counted count settings) e r.counted) in
    (long, sym (low_half m (omega (arith, long))) ∙ k.coded, n)

-- a byte of the part, in the whole
pub byte_at : (s : List ℕ) (at size i : ℕ) → i < size → get_or s (at + 2 + i) 0 ≡ get_or (mid_of (at + 2) size s) i 0
byte_at s at size i h = sym (get_or-drop (at + 2) s i 0) ∙ sym (get_or-take size (drop (at + 2) s) i 0 h)
