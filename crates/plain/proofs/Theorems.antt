-- What taking a message to an area comes to: one thing, and what it leaves. Assumes nothing.
use Rattle.lists.proofs.Kit.{ℕ, ◌≤◌, ◌<◌, ◌+◌, ◌≡◌, refl, sym, ap, ◌∙◌, subst, subst⁻¹, subst₂, ◌≢◌, ◌↔◌, ◌⊎◌, inl, inr, Bool, true, false, leb, leb-true, List, [], ◌∷◌, ◌++◌, length, arith}
use Rattle.lists.specs.Ladder.{Answers}
use Rattle.lists.proofs.Ladder.{one_answer}
use Rattle.writing.specs.declared.Coding.{Coding}
use Rattle.writing.specs.Carrier.{InSize}
use Rattle.writing.specs.Settings.{Setting, Hash}
use Rattle.read_carrier.proofs.KindLaws.{request_one, one_coding, not_both, in_size}
use Rattle.read_carrier.proofs.MessageOne.{query_hash}
use Rattle.tables.specs.Limits.{handheld}
use Rattle.tables.specs.Tables.{Tables}
use Rattle.requests.specs.Judge.{kept, refused}
use Rattle.requests.specs.Requests.{Judged, forget}
use Rattle.laws_taking.proofs.Determined.{judged_determined}
use Rattle.laws_taking.proofs.Theorems.{numbered, number_of}
use Rattle.station.specs.Taking.{AfterTaking, stays, Asked, AsQuery}
use Rattle.plain_log.specs.Area.{area_size, log_bytes, area_bytes, TakenFrom, AreaOf, IsArea}
use Rattle.plain.specs.Plain.{plain_settled, PlainRequest, PlainHandled, Full, plain_taken}
use Rattle.plain_log.proofs.AreaOne.{area_determined, turn_more}
use Rattle.plain.proofs.AskedLaws.{leb_not, fits_behind, passes_end}
use Rattle.plain.proofs.LadderLaws.{request_climbs}

-- equal outcomes leave equal areas
store_of : {x y : AfterTaking} → x ≡ y → x.store ≡ y.store
store_of e = ap (λ (x : AfterTaking). x.store) e

module _ (message area reply : List ℕ) where
  -- ---- one thing

  -- a query is answered in one way
  one_asked : (h k : Hash) (a b : AfterTaking) → Asked handheld message area reply h k a → Asked handheld message area reply h k b → a ≡ b
  one_asked h k a b (inl (_, _, e)) (inl (_, _, d)) = e ∙ sym d
  one_asked h k a b (inl (n, s, e)) (inr (never, d)) = absurd (never n s)
  one_asked h k a b (inr (never, e)) (inl (n, s, d)) = absurd (never n s)
  one_asked h k a b (inr (_, e)) (inr (_, d)) = e ∙ sym d

  -- what it comes to, of a request or a query
  abbrev Comes : List (List ℕ) → Tables → AfterTaking → Type 0
  Comes log t a = PlainRequest message area reply log t a ⊎ AsQuery handheld message area reply t a

  -- a message to an area of this log and these tables comes to one thing
  one_outcome : (log : List (List ℕ)) (t : Tables) (a b : AfterTaking) → Comes log t a → Comes log t b → a ≡ b
  one_outcome log t a b (inl (c, count, settings, r, o, x, p)) (inl (c', count', settings', r', o', y, q)) =
      let (n, s) = request_one r r' in
      let z : Judged c' handheld count' (forget t) settings' o
      = subst (λ (d : Coding). Judged d handheld count' (forget t) settings' o) (one_coding r r') (subst₂ (λ (i : ℕ) (l : List ℕ). Judged c handheld i (forget t) l o) n s x) in
      p ∙ ap (plain_settled message area reply log) (judged_determined c' handheld count' _ _ o o' z y) ∙ sym q
  one_outcome log t a b (inl (c, count, settings, r, o, x, p)) (inr (h, y, q)) = absurd (not_both r y)
  one_outcome log t a b (inr (h, x, p)) (inl (c, count, settings, r, o, y, q)) = absurd (not_both r x)
  one_outcome log t a b (inr (h, x, p)) (inr (k, y, q)) =
      one_asked k t.hash a b (subst (λ (z : Hash). Asked handheld message area reply z t.hash a) (query_hash x y) p) q

  -- and so does one to an area, whichever log it is read as
  one_handled : (a b : AfterTaking) → PlainHandled message area reply a → PlainHandled message area reply b → a ≡ b
  one_handled a b p q =
      let (e, d) = area_determined area p.log q.log p.tables q.tables p.area_is q.area_is in
      one_outcome q.log q.tables a b (subst₂ (λ (l : List (List ℕ)) (t : Tables). Comes l t a) e d p.comes_to) q.comes_to

  -- PLAIN-DETERMINED: two answers that taking allows for one message, area and reply buffer are equal
  pub plain_determined : (a b : AfterTaking) → Answers (plain_taken message area reply) a → Answers (plain_taken message area reply) b → a ≡ b
  plain_determined a b p q = one_answer (plain_taken message area reply) one_handled a b p q

  -- ---- how a message ends

  -- a request that was kept behind those of the area
  record Behind (a : AfterTaking) : Type 0 where
    log : List (List ℕ)
    tables : Tables
    area_is : AreaOf area log tables
    settings : List Setting
    after : Tables
    taken : TakenFrom handheld tables message settings after
    fits : 4 + length (log_bytes (log ++ (message ∷ []))) ≤ area_size
    number : a.answer.number ≡ 0
    store : a.store ≡ area_bytes (log ++ (message ∷ []))

  -- nothing is touched, a reply is written and the area stays, a request passes the area's end, or it is kept
  data Ends (a : AfterTaking) : Type 0 where
    untouched : (n : ℕ) → 10 ≤ n → n ≤ 14 → a ≡ stays handheld message area reply n → Ends a
    answered : a.answer.number ≤ 5 → a.store ≡ area → Ends a
    full : Full message area reply → a ≡ stays handheld message area reply 18 → Ends a
    behind : Behind a → Ends a

  -- a number that is at most 5, by what the answer is
  small : (n : ℕ) (a : AfterTaking) → n ≤ 5 → a.answer.number ≡ n → a.answer.number ≤ 5
  small n a h e = omega (arith, h, e)

  -- a query
  query_ends : (h k : Hash) (a : AfterTaking) → Asked handheld message area reply h k a → Ends a
  query_ends h k a (inl (_, _, e)) = answered (small 0 a (omega arith) (number_of e)) (store_of e)
  query_ends h k a (inr (_, e)) = answered (small 5 a (omega arith) (number_of e)) (store_of e)

  -- a request in size to an area
  request_ends : (a : AfterTaking) (log : List (List ℕ)) (t : Tables) → 20 ≤ length reply → InSize handheld.message message → AreaOf area log t → PlainRequest message area reply log t a → Ends a
  request_ends a log t big i is (c, count, settings, r, refused number failed, j, e) =
      let (_, m) = numbered c handheld (forget t) j in
      answered (small number a (omega (arith, m)) (number_of e)) (store_of e)
  request_ends a log t big i is (c, count, settings, r, kept l u, j, e) = by (leb (4 + length (log_bytes (log ++ (message ∷ [])))) area_size) refl
    where
      now : TakenFrom handheld t message l u
      now = record { in_size = i; coding = c; count = count; bytes = settings; request = r; judged = j }

      by : (b : Bool) → leb (4 + length (log_bytes (log ++ (message ∷ [])))) area_size ≡ b → Ends a
      by true q =
          let f : 4 + length (log_bytes (log ++ (message ∷ []))) ≤ area_size = leb-true (4 + length (log_bytes (log ++ (message ∷ [])))) area_size q in
          let d = e ∙ fits_behind message area reply log _ f in
          behind (record { log = log; tables = t; area_is = is; settings = l; after = u; taken = now; fits = f; number = number_of d; store = store_of d })
      by false q =
          let f : area_size < 4 + length (log_bytes (log ++ (message ∷ []))) = leb_not (4 + length (log_bytes (log ++ (message ∷ [])))) area_size q in
          full (record { buffer = big; log = log; tables = t; area_is = is; settings = l; after = u; would_be_taken = now; passes = f }) (e ∙ passes_end message area reply log _ f)

  -- a message that none of the tests turns down
  handled_ends : (a : AfterTaking) → 20 ≤ length reply → InSize handheld.message message → PlainHandled message area reply a → Ends a
  handled_ends a big i p = by p.comes_to
    where
      by : Comes p.log p.tables a → Ends a
      by (inl r) = request_ends a p.log p.tables big i p.area_is r
      by (inr (h, q, x)) = query_ends h p.tables.hash a x

  -- ENDS: every answer that taking allows is one of these
  ends : (a : AfterTaking) → Answers (plain_taken message area reply) a → Ends a
  ends a (inl (_, e)) = untouched 10 (omega arith) (omega arith) e
  ends a (inr (_, inl (_, e))) = untouched 11 (omega arith) (omega arith) e
  ends a (inr (_, inr (_, inl (_, e)))) = untouched 12 (omega arith) (omega arith) e
  ends a (inr (_, inr (_, inr (_, inl (_, e))))) = untouched 13 (omega arith) (omega arith) e
  ends a (inr (_, inr (_, inr (_, inr (_, inl (_, e)))))) = untouched 14 (omega arith) (omega arith) e
  ends a (inr (_, inr (_, inr (_, inr (_, inr (_, inl (_, e))))))) = answered (small 1 a (omega arith) (number_of e)) (store_of e)
  ends a (inr (_, inr (_, inr (_, inr (_, inr (_, inr (_, inl (_, e)))))))) = answered (small 4 a (omega arith) (number_of e)) (store_of e)
  ends a (inr (b, inr (_, inr (i, inr (_, inr (_, inr (_, inr (_, p)))))))) = handled_ends a (omega (arith, b)) (in_size handheld.message message i) p

  -- ---- what it leaves

  -- PLAIN-STAYS: where the number is 10 or more, the area and the reply buffer are as before
  pub plain_stays : (a : AfterTaking) → Answers (plain_taken message area reply) a → 10 ≤ a.answer.number → (a.store ≡ area) × (a.reply ≡ reply)
  plain_stays a p h = by (ends a p)
    where
      by : Ends a → (a.store ≡ area) × (a.reply ≡ reply)
      by (untouched n _ _ e) = (store_of e, ap (λ (x : AfterTaking). x.reply) e)
      by (answered m e) = absurd (omega (arith, m, h))
      by (full f e) = (store_of e, ap (λ (x : AfterTaking). x.reply) e)
      by (behind k) = absurd (omega (arith, k.number, h))

  -- NOT-KEPT: "A refused message isn't kept"
  pub not_kept : (a : AfterTaking) → Answers (plain_taken message area reply) a → a.answer.number ≢ 0 → a.store ≡ area
  not_kept a p h = by (ends a p)
    where
      by : Ends a → a.store ≡ area
      by (untouched n _ _ e) = store_of e
      by (answered m e) = e
      by (full f e) = store_of e
      by (behind k) = absurd (h k.number)

  -- AREA-KEPT: an area stays one
  pub area_kept : (a : AfterTaking) → IsArea area → Answers (plain_taken message area reply) a → IsArea a.store
  area_kept a is p = by (ends a p)
    where
      same : a.store ≡ area → IsArea a.store
      same e = subst⁻¹ IsArea e is

      by : Ends a → IsArea a.store
      by (untouched n _ _ e) = same (store_of e)
      by (answered m e) = same e
      by (full f e) = same (store_of e)
      by (behind k) = (k.log ++ (message ∷ []), k.after, record { bytes = k.store; fits = k.fits; taken = turn_more handheld k.area_is.taken k.taken })

  -- a request that would be taken and passes the area's end may be answered with 18
  full_answers : Full message area reply → Answers (plain_taken message area reply) (stays handheld message area reply 18)
  full_answers f =
      let t = f.would_be_taken in
      request_climbs message area reply _ f.buffer (f.log, f.tables, f.area_is) t.coding t.count t.bytes t.in_size t.request (record {
        log = f.log;
        tables = f.tables;
        area_is = f.area_is;
        comes_to = inl (t.coding, t.count, t.bytes, t.request, kept f.settings f.after, t.judged, sym (passes_end message area reply f.log _ f.passes));
      })

  -- FULL-EXACTLY: "18 .. exactly when a request that would be taken passes the area's end"
  pub full_exactly : (a : AfterTaking) → Answers (plain_taken message area reply) a → (a.answer.number ≡ 18) ↔ Full message area reply
  full_exactly a p = (λ h. by h (ends a p), λ f. number_of (plain_determined a (stays handheld message area reply 18) p (full_answers f)))
    where
      by : a.answer.number ≡ 18 → Ends a → Full message area reply
      by h (untouched n _ m e) = absurd (omega (arith, h, m, number_of e))
      by h (answered m e) = absurd (omega (arith, m, h))
      by h (full f e) = f
      by h (behind k) = absurd (omega (arith, k.number, h))
