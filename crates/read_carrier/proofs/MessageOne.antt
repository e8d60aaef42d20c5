-- A message is one thing: two answers that its contract allows are equal. Assumes nothing.
use Rattle.lists.proofs.Kit.{ℕ, zero, suc, ◌+◌, ◌*◌, ◌≡◌, refl, sym, ap, ◌∙◌, subst, subst⁻¹, ◌≢◌, ◌⊎◌, ⊎_elim, List, [], ◌∷◌, ◌++◌, map, append-nil, cond, mul_comm, arith, eqb, length, drop, length-append, ne_eqb}
use Rattle.lists.proofs.Seqs.{cut}
use Rattle.writing.specs.Fields.{bits, bits_of, Field, val, res, Shows, widths}
use Rattle.writing.specs.declared.Coding.{Coding}
use Rattle.writing.specs.declared.Coding.TheVariants.{Unicode16, EightBit}
use Rattle.writing.specs.Settings.{Hash}
use Rattle.writing.specs.Writing.{request_head}
use Rattle.writing.specs.Ranges.{HashSize}
use Rattle.writing.specs.Carrier.{Carries, coding_type, first_byte, Opens, Counted, query, Query, InSize}
use Rattle.writing.proofs.Bits.{shows_length, shows_split, widths_map}
use Rattle.writing.proofs.Ends.{Agree, val_ends, res_ends, vals_end}
use Rattle.read_fields.specs.Places.{FieldsAt}
use Rattle.read_carrier.specs.Message.{OpenedIs, MessageIs}
use Rattle.read_fields.specs.declared.hashes.HashPlace.{HashPlace}
use Rattle.read_carrier.specs.declared.carrier.Message.{Message}
use Rattle.read_carrier.specs.declared.carrier.Message.TheVariants.{Size, Carrier, «Type» as OtherType, Version, NoRequest, Request, NoQuery, Query as AQuery}
use Rattle.std.specs.Prelude.{Result, Ok, Err}
use Rattle.read_carrier.specs.declared.carrier.Opening.{Opening}
use Rattle.read_carrier.specs.declared.carrier.Unopened.{Unopened}
use Rattle.read_carrier.specs.declared.carrier.Unopened.TheVariants.{Size as OutOfSize, Carrier as Uncarried}
use Rattle.read_fields.proofs.HashLaws.{one_size}
use Rattle.read_carrier.proofs.CarrierLaws.{wide_bytes, carries_one}

-- ---- what the first data bytes say, they say once

-- two lists of fields in the same bits
agree : {fs gs : List Field} (bs : List ℕ) → Shows fs bs → Shows gs bs → Agree fs gs [] []
agree bs s t = record { one = bs; two = bs; left = s; right = t; same = refl }

-- the message opens in one way
pub opens_one : {v w t u c d : ℕ} {x y m : List ℕ} → Opens v t c x m → Opens w u d y m → (v ≡ w) × (t ≡ u) × (c ≡ d) × (x ≡ y)
opens_one {v} {w} {t} {u} o p =
    let (c, e) = carries_one o.carried p.carried in
    let (f, r) = cut (o.first ∷ []) (p.first ∷ []) refl (sym o.parts ∙ e ∙ p.parts) in
    let g : Agree (first_byte v t) (first_byte w u) [] []
    = agree (bits_of (p.first ∷ [])) (subst (λ (l : List ℕ). Shows (first_byte v t) (bits_of l)) f o.says) p.says in
    let (a, g) = val_ends g in
    let (b, g) = val_ends g in
    (a, b, c, e)

-- OPENED DETERMINED: two answers that the contract of opening allows for one message are equal
pub opened_determined : (most : ℕ) (m : List ℕ) (a b : Result Opening Unopened) → OpenedIs most m a → OpenedIs most m b → a ≡ b
opened_determined most m (Err OutOfSize) (Err OutOfSize) p q = refl
opened_determined most m (Err OutOfSize) (Err Uncarried) p q = absurd (p q.0)
opened_determined most m (Err OutOfSize) (Ok o) p q = absurd (p q.0)
opened_determined most m (Err Uncarried) (Err OutOfSize) p q = absurd (q p.0)
opened_determined most m (Err Uncarried) (Err Uncarried) p q = refl
opened_determined most m (Err Uncarried) (Ok o) p q = absurd (p.1 _ _ q.1.carried)
opened_determined most m (Ok o) (Err OutOfSize) p q = absurd (q p.0)
opened_determined most m (Ok o) (Err Uncarried) p q = absurd (q.1 _ _ p.1.carried)
opened_determined most m (Ok o) (Ok o') p q =
    let (e, f, g, _) = opens_one p.1 q.1 in
    λ i. Ok (record { version = e i; kind = f i; coding = g i })

-- a coding type is that of one coding
pub coding_one : (c d : Coding) → coding_type c ≡ coding_type d → c ≡ d
coding_one Unicode16 Unicode16 e = refl
coding_one Unicode16 EightBit e = absurd (omega (arith, e))
coding_one EightBit Unicode16 e = absurd (omega (arith, e))
coding_one EightBit EightBit e = refl

-- a request has one count, and one rest after it
pub counted_one : {n k : ℕ} {s t x : List ℕ} → Counted n s x → Counted k t x → (n ≡ k) × (s ≡ t)
counted_one {n} {k} a b =
    let la : length a.head ≡ 2 = wide_bytes (request_head n) 2 a.head refl a.says in
    let lb : length b.head ≡ 2 = wide_bytes (request_head k) 2 b.head refl b.says in
    let (e, r) = cut a.head b.head (la ∙ sym lb) (sym a.parts ∙ b.parts) in
    let g : Agree (request_head n) (request_head k) [] []
    = agree (bits_of b.head) (subst (λ (l : List ℕ). Shows (request_head n) (bits_of l)) e a.says) b.says in
    let (p, g) = val_ends g in
    let (q, g) = val_ends g in
    let (z, g) = val_ends g in
    (z, r)

-- a query has one hash
pub query_hash : {h k : Hash} {m : List ℕ} → Query h m → Query k m → h ≡ k
query_hash {h} {k} a b =
    let e : a.data_bytes ≡ b.data_bytes = (carries_one a.carried b.carried).1 in
    let g : Agree (query h ++ []) (query k ++ []) [] []
    = agree (bits_of b.data_bytes) (subst⁻¹ (λ (l : List Field). Shows l (bits_of b.data_bytes)) (append-nil (query h)) (subst (λ (l : List ℕ). Shows (query h) (bits_of l)) e a.written))
    (subst⁻¹ (λ (l : List Field). Shows l (bits_of b.data_bytes)) (append-nil (query k)) b.written) in
    let (p, g) = val_ends g in
    let (q, g) = val_ends g in
    let (z, g) = val_ends (res_ends g) in
    let n : length h.value ≡ length k.value
    = one_size (subst (λ (c : ℕ). HashSize c (length h.value)) z a.in_range) b.in_range in
    let (v, g) = vals_end 8 h.value k.value n g in
    λ i. record { code = z i; value = v i }

-- ---- requests and queries open as such

-- fields of eight bits at the start of bytes are the first byte
first_shows : (fs gs : List Field) (x : List ℕ) → widths fs ≡ 8 → Shows (fs ++ gs) (bits_of x) → (b : ℕ) × (rest : List ℕ) × (x ≡ b ∷ rest) × Shows fs (bits_of (b ∷ []))
first_shows fs gs [] w s =
    let (a, b, e, p, q) = shows_split fs gs [] s in
    let l : 0 ≡ length a + length b = ap length e ∙ length-append a b in
    absurd (omega (arith, shows_length fs a p))
first_shows fs gs (b ∷ x) w s =
    let (a, r, e, p, q) = shows_split fs gs (bits 8 b ++ bits_of x) s in
    let (z, y) = cut a (bits 8 b) (shows_length fs a p ∙ w) (sym e) in
    (b, x, refl, subst (Shows fs) z p)

-- a counted request opens with version 1 and type 0
pub counted_opens : {c n : ℕ} {s x m : List ℕ} → Carries c x m → Counted n s x → Opens 1 0 c x m
counted_opens {c} {n} {s} {x} k a =
    let (b, rest, e, p) = first_shows (first_byte 1 0) (val 8 n ∷ []) a.head refl a.says in
    record { carried = k; first = b; rest = rest ++ s; parts = a.parts ∙ ap (λ (l : List ℕ). l ++ s) e; says = p }

-- a query opens with version 1 and type 5
pub query_opens : {h : Hash} {m : List ℕ} (q : Query h m) → Opens 1 5 q.any_coding q.data_bytes m
query_opens {h} q =
    let (b, rest, e, p) = first_shows (first_byte 1 5) (res 2 ∷ val 6 h.code ∷ map (val 8) h.value) q.data_bytes refl q.written in
    record { carried = q.carried; first = b; rest = rest; parts = e; says = p }

-- ---- what the answers say, once the message opens

-- a request, or none
data RequestOr (n : ℕ) (x m : List ℕ) : Message → Type 0 where
  no_request : ((c : Coding) (count : ℕ) (settings : List ℕ) → n ≡ coding_type c → Counted count settings x → ⊥) → RequestOr n x m NoRequest
  a_request : {count at : ℕ} {c : Coding} → n ≡ coding_type c → Counted count (drop at m) x → at ≡ 8 → RequestOr n x m (Request count at c)

-- a query, or none
data QueryOr (m : List ℕ) : Message → Type 0 where
  no_query : ((h : Hash) → Query h m → ⊥) → QueryOr m NoQuery
  a_query : {p : HashPlace} (h : Hash) → Query h m → h.code ≡ p.code → FieldsAt (map (val 8) h.value) m p.start (length m) → QueryOr m (AQuery p)

-- a request is one
request_one : {c : ℕ} {x m : List ℕ} {a b : Message} → RequestOr c x m a → RequestOr c x m b → a ≡ b
request_one (no_request n) (no_request k) = refl
request_one (no_request n) (a_request {c = c} e k z) = absurd (n c _ _ e k)
request_one (a_request {c = c} e k z) (no_request n) = absurd (n c _ _ e k)
request_one (a_request {c = c} e k z) (a_request {c = d} f l y) =
    let p = (counted_one k l).0 in
    let q = coding_one c d (sym e ∙ f) in
    λ i. Request (p i) ((z ∙ sym y) i) (q i)

-- a hash value starts as far before the message's end as it is long
value_start : (v m : List ℕ) (from : ℕ) → FieldsAt (map (val 8) v) m from (length m) → length m ≡ from + length v
value_start v m from p =
    let w : widths (map (val 8) v) ≡ 8 * length v = widths_map (val 8) 8 (λ u. refl) v ∙ mul_comm (length v) 8 in
    p.ends ∙ ap (λ (i : ℕ). from + i) (wide_bytes (map (val 8) v) (length v) p.bytes w p.written)

-- a query is one
query_one : {m : List ℕ} {a b : Message} → QueryOr m a → QueryOr m b → a ≡ b
query_one (no_query n) (no_query k) = refl
query_one (no_query n) (a_query h q e s) = absurd (n h q)
query_one (a_query h q e s) (no_query n) = absurd (n h q)
query_one {m} (a_query {p} h q e s) (a_query {p = p'} k r d t) =
    let one : h ≡ k = query_hash q r in
    let l : length h.value ≡ length k.value = ap (λ (x : Hash). length x.value) one in
    let u : p.start ≡ p'.start = omega (arith, value_start h.value m p.start s, value_start k.value m p'.start t) in
    let w : p.code ≡ p'.code = sym e ∙ ap (λ (x : Hash). x.code) one ∙ d in
    λ i. AQuery (record { code = w i; start = u i })

-- by version and type: 0 another type, 1 another version, 2 a request, 3 a query
which : ℕ → ℕ → ℕ
which version kind =
    cond (eqb kind 0) (cond (eqb version 1) 2 1) (cond (eqb kind 5) (cond (eqb version 1) 3 1) 0)

-- what the answer is for each of them
abbrev Answer : ℕ → ℕ → List ℕ → List ℕ → Message → Type 0
Answer zero c x m a = a ≡ OtherType
Answer (suc zero) c x m a = a ≡ Version
Answer (suc (suc zero)) c x m a = RequestOr c x m a
Answer (suc (suc (suc k))) c x m a = QueryOr m a

-- each has one answer
answer_one : (k c : ℕ) (x m : List ℕ) (a b : Message) → Answer k c x m a → Answer k c x m b → a ≡ b
answer_one zero c x m a b p q = p ∙ sym q
answer_one (suc zero) c x m a b p q = p ∙ sym q
answer_one (suc (suc zero)) c x m a b p q = request_one p q
answer_one (suc (suc (suc k))) c x m a b p q = query_one p q

-- another type
which_type : (version kind : ℕ) → kind ≢ 0 → kind ≢ 5 → which version kind ≡ 0
unfolding which
which_type version kind p q = rw (ne_eqb kind 0 p, ne_eqb kind 5 q)

-- another version
which_version : (version kind : ℕ) → (kind ≡ 0) ⊎ (kind ≡ 5) → version ≢ 1 → which version kind ≡ 1
unfolding which
which_version version kind p q =
    ⊎_elim (λ e. subst⁻¹ (λ (k : ℕ). which version k ≡ 1) e (rw (ne_eqb version 1 q))) (λ e. subst⁻¹ (λ (k : ℕ). which version k ≡ 1) e (rw (ne_eqb version 1 q))) p

-- ---- the answers, by how far the message goes

-- out of size, not carried, or opened
data View (most : ℕ) (m : List ℕ) (a : Message) : Type 0 where
  out_of_size : (InSize most m → ⊥) → a ≡ Size → View most m a
  not_carried : InSize most m → ((c : ℕ) (x : List ℕ) → Carries c x m → ⊥) → a ≡ Carrier → View most m a
  opened : {v t c : ℕ} {x : List ℕ} → InSize most m → Opens v t c x m → Answer (which v t) c x m a → View most m a

-- every answer goes so far
view : (most : ℕ) (m : List ℕ) (a : Message) → MessageIs most m a → View most m a
unfolding which
view most m Size y = out_of_size y refl
view most m Carrier y = not_carried y.0 y.1 refl
view most m OtherType y =
    opened y.0 y.5 (subst⁻¹ (λ (k : ℕ). Answer k y.3 y.4 m OtherType) (which_type y.1 y.2 y.6 y.7) refl)
view most m Version y =
    opened y.0 y.5 (subst⁻¹ (λ (k : ℕ). Answer k y.3 y.4 m Version) (which_version y.1 y.2 y.6 y.7) refl)
view most m NoRequest y = opened y.0 y.3 (no_request y.4)
view most m (Request count at c) y = opened y.0 (counted_opens y.2 y.3) (a_request refl y.3 y.4)
view most m NoQuery y = opened y.0 y.3 (no_query y.4)
view most m (AQuery p) y = opened y.0 (query_opens y.2) (a_query y.1 y.2 y.3 y.4)

-- and in one way
view_one : (most : ℕ) (m : List ℕ) (a b : Message) → View most m a → View most m b → a ≡ b
view_one most m a b (out_of_size n e) (out_of_size k d) = e ∙ sym d
view_one most m a b (out_of_size n e) (not_carried i k d) = absurd (n i)
view_one most m a b (out_of_size n e) (opened i o y) = absurd (n i)
view_one most m a b (not_carried i k d) (out_of_size n e) = absurd (n i)
view_one most m a b (not_carried i k d) (not_carried j l e) = d ∙ sym e
view_one most m a b (not_carried i k d) (opened j o y) = absurd (k _ _ o.carried)
view_one most m a b (opened i o y) (out_of_size n e) = absurd (n i)
view_one most m a b (opened i o y) (not_carried j k d) = absurd (k _ _ o.carried)
view_one most m a b (opened {v} {t} {c} {x} i o y) (opened j p z) =
    let (e, f, g, h) = opens_one p o in
    answer_one (which v t) c x m a b y
    (subst (λ (k : ℕ × ℕ × ℕ × List ℕ). Answer (which k.0 k.1) k.2 k.3 m b) (λ n. (e n, f n, g n, h n)) z)

-- MESSAGE DETERMINED: two answers that the contract allows for one message are equal
pub message_determined : (most : ℕ) (m : List ℕ) (a b : Message) → MessageIs most m a → MessageIs most m b → a ≡ b
message_determined most m a b p q = view_one most m a b (view most m a p) (view most m b q)
