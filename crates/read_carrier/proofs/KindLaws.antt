-- A message is one of the kinds that `writing/specs/Carrier.antt` tells apart, and of no two of them. Assumes nothing.
use Rattle.lists.proofs.Kit.{ℕ, ◌≡◌, refl, subst, subst⁻¹, ◌≢◌, ◌⊎◌, ⊎_elim, Bool, true, false, List, ◌++◌, arith, ltb, length, drop-append_seam, ltb-true, ltb-false}
use Rattle.lists.specs.Bytes.{Bytes}
use Rattle.lists.proofs.Bytes.{bytes_drop}
use Rattle.writing.specs.declared.Coding.{Coding}
use Rattle.writing.specs.Settings.{Hash}
use Rattle.writing.specs.Carrier.{start_bytes, coding_type, Opens, Counted, RequestOf, Query, InSize, OtherKind, OtherType, OtherVersion, NoRequest, NoQuery}
use Rattle.read_carrier.proofs.CarrierLaws.{carries_one}
use Rattle.read_carrier.proofs.MessageOne.{opens_one, coding_one, counted_one, counted_opens, query_opens}

-- ---- requests

-- REQUEST ONE: a request has one count, and one rest after it
pub request_one : {c d : Coding} {n k : ℕ} {s r m : List ℕ} → RequestOf c n s m → RequestOf d k r m → (n ≡ k) × (s ≡ r)
request_one {n} {s} a b =
    counted_one (subst (Counted n s) (carries_one a.carried b.carried).1 a.counted) b.counted

-- ONE CODING: a request's texts are coded in one way
pub one_coding : {c d : Coding} {n k : ℕ} {s r m : List ℕ} → RequestOf c n s m → RequestOf d k r m → c ≡ d
one_coding {c} {d} a b = coding_one c d (carries_one a.carried b.carried).0

-- it opens with version 1 and type 0
pub request_opens : {c : Coding} {n : ℕ} {s m : List ℕ} (q : RequestOf c n s m) → Opens 1 0 (coding_type c) q.data_bytes m
request_opens q = counted_opens q.carried q.counted

-- what is behind a list of bytes, in bytes
pub bytes_right : (a b : List ℕ) → Bytes (a ++ b) → Bytes b
bytes_right a b h = subst Bytes (drop-append_seam a b) (bytes_drop (length a) (a ++ b) h)

-- a request's settings are bytes where the message is
pub request_bytes : {c : Coding} {n : ℕ} {s m : List ℕ} → RequestOf c n s m → Bytes m → Bytes s
request_bytes {s} q h =
    let d : Bytes q.data_bytes = bytes_right (start_bytes ++ q.carried.header) q.data_bytes (subst Bytes q.carried.whole h) in
    bytes_right q.counted.head s (subst Bytes q.counted.parts d)

-- NOT BOTH: no request is a result query
pub not_both : {c : Coding} {n : ℕ} {s m : List ℕ} {h : Hash} → RequestOf c n s m → Query h m → ⊥
not_both a b = omega (arith, (opens_one (request_opens a) (query_opens b)).1)

-- ---- messages that are neither

-- a size that is not out of size is in it
pub in_size : (most : ℕ) (m : List ℕ) → ((InSize most m → ⊥) → ⊥) → InSize most m
in_size most m h = by (ltb (length m) 7) (ltb most (length m)) refl refl
  where
    by : (a b : Bool) → ltb (length m) 7 ≡ a → ltb most (length m) ≡ b → InSize most m
    by true b x y = absurd (h (λ i. omega (arith, i.0, ltb-true (length m) 7 x)))
    by false true x y = absurd (h (λ i. omega (arith, i.1, ltb-true most (length m) y)))
    by false false x y = (ltb-false (length m) 7 x, ltb-false most (length m) y)

module _ {version kind coding : ℕ} {d m : List ℕ} (o : Opens version kind coding d m) where
  -- a message that opens with none of these types
  pub other_kind : (These : ℕ → Type 0) → (These kind → ⊥) → OtherKind These m
  other_kind These never v k c x e p = never (subst⁻¹ These (opens_one o p).1 e)

  -- neither with 0 nor with 5
  pub other_type : kind ≢ 0 → kind ≢ 5 → OtherType m
  other_type a b = other_kind (λ k. (k ≡ 0) ⊎ (k ≡ 5)) (⊎_elim a b)

  -- or with another version
  pub other_version : version ≢ 1 → OtherVersion m
  other_version n k c x p = n (opens_one o p).0

  -- one that opens as a request is no query
  pub opens_no_query : kind ≡ 0 → NoQuery m
  opens_no_query e h q = omega (arith, e, (opens_one o (query_opens q)).1)

  -- and one that opens as a query is no request
  pub opens_no_request : kind ≡ 5 → NoRequest m
  opens_no_request e c n s r = omega (arith, e, (opens_one o (request_opens r)).1)

  -- data bytes that are not counted, or of another coding type, are no request
  pub uncounted : ((c : Coding) (count : ℕ) (settings : List ℕ) → coding ≡ coding_type c → Counted count settings d → ⊥) → NoRequest m
  uncounted never c n s r =
      let (e, x) = carries_one o.carried r.carried in
      never c n s e (subst⁻¹ (Counted n s) x r.counted)
