-- What one message comes to on a store and on an area of the same tables. Assumes nothing.
use Rattle.lists.proofs.Kit.{ℕ, ◌≤◌, ◌<◌, ◌+◌, ◌≡◌, refl, sym, ap, ◌∙◌, subst, subst₂, ◌↔◌, iff_rfl, ◌⊎◌, inl, inr, Bool, true, false, leb, leb-true, List, [], ◌∷◌, ◌++◌, length, arith}
use Rattle.lists.specs.Ladder.{Answers}
use Rattle.writing.specs.declared.Coding.{Coding}
use Rattle.writing.specs.Carrier.{RequestOf, Query, NoRequest}
use Rattle.writing.specs.Settings.{Setting, Hash}
use Rattle.read_carrier.proofs.KindLaws.{request_one, one_coding, not_both}
use Rattle.read_carrier.proofs.MessageOne.{query_hash}
use Rattle.tables.specs.Allowed.{Allowed}
use Rattle.tables.specs.Forms.{layout}
use Rattle.tables.specs.Limits.{handheld}
use Rattle.tables.specs.Store.{StoreOf, Holds}
use Rattle.tables.specs.Tables.{Tables, no_hash}
use Rattle.tables.proofs.AllowedLaws.{forget_allowed}
use Rattle.tables.proofs.RoomyLaws.{handheld_roomy}
use Rattle.shared_texts.proofs.Forms.{holds_store}
use Rattle.requests.specs.Judge.{Outcome, kept, refused, taken as all_taken}
use Rattle.requests.specs.Requests.{Judged, forget, last_item}
use Rattle.station.specs.Taking.{AfterTaking, stays, replies, turned_down, settled, Asked, AsRequest, AsQuery, Handled, taken}
use Rattle.laws_taking.proofs.Demand.{run_allowed}
use Rattle.laws_taking.proofs.Determined.{judged_determined}
use Rattle.laws_taking.proofs.Theorems.{numbered}
use Rattle.screen.proofs.AnswerLaws.{one_tables}
use Rattle.plain_log.specs.Area.{area_size, log_bytes, area_bytes, AreaOf, IsArea}
use Rattle.plain.specs.Plain.{PlainRequest, PlainHandled, plain_settled, plain_taken}
use Rattle.plain_log.proofs.AreaOne.{area_determined}
use Rattle.plain.proofs.AskedLaws.{leb_not, fits_behind, passes_end}
use Rattle.emulated.proofs.Matching.{Matched, rungs, feet, matched}

-- what a request that is taken leaves is allowed
pub kept_allowed : (c : Coding) (n : ℕ) (t : Tables) (bs : List ℕ) (l : List Setting) (u : Tables) → Allowed handheld t → Judged c handheld n (forget t) bs (kept l u) → Allowed handheld u
kept_allowed c n t bs l u ok (all_taken e q) = run_allowed c handheld q (forget_allowed handheld t ok)

-- of a store and an area of one set of tables, neither is refused with 11
pub good_both : (store area : List ℕ) (log : List (List ℕ)) (t : Tables) → Holds handheld t store → AreaOf area log t → (StoreOf handheld store → ⊥) ↔ (IsArea area → ⊥)
good_both store area log t holds area_is = (λ n. absurd (n (holds_store handheld t store handheld_roomy holds)), λ n. absurd (n (log, t, area_is)))

-- the message is a request that these tables take
pub record Good (message : List ℕ) (t : Tables) (l : List Setting) (u : Tables) : Type 0 where
  pub coding : Coding
  pub count : ℕ
  pub settings : List ℕ
  pub request : RequestOf coding count settings message
  pub judged : Judged coding handheld count (forget t) settings (kept l u)

module _ (message store area reply reply' : List ℕ) (log : List (List ℕ)) (t : Tables) where
  -- a reply on both, by which the store and the area become these
  abbrev Replies : (number failed : ℕ) → Bool → Bool → Hash → (after after' : List ℕ) → AfterTaking → AfterTaking → Type 0
  Replies number failed send reboot h after after' x y =
      (x ≡ replies handheld message store reply number failed send reboot h after) × (y ≡ replies handheld message area reply' number failed send reboot h after')

  -- nothing is touched on either; both reply alike and keep nothing; both take a request; or the hand-held takes one that passes the area's end
  pub data Paired (x y : AfterTaking) : Type 0 where
    untouched : (n : ℕ) → 10 ≤ n → n ≤ 14 → x ≡ stays handheld message store reply n → y ≡ stays handheld message area reply' n → Paired x y
    answered : (number failed : ℕ) (h : Hash) → number ≤ 5 → Replies number failed true false h store area x y → (number ≡ 0 → NoRequest message) → Paired x y
    both_take : (l : List Setting) (u : Tables) → Good message t l u → 4 + length (log_bytes (log ++ (message ∷ []))) ≤ area_size
        → Replies 0 0 (last_item l).flags.reply (last_item l).flags.reboot u.hash (layout handheld u) (area_bytes (log ++ (message ∷ []))) x y → Paired x y
    past_end : (l : List Setting) (u : Tables) → Good message t l u → area_size < 4 + length (log_bytes (log ++ (message ∷ [])))
        → x ≡ settled handheld message store reply (kept l u) → y ≡ stays handheld message area reply' 18 → Paired x y

  -- two that touch nothing, and two that turn the message down
  stay : (n : ℕ) → 10 ≤ n → n ≤ 14 → Paired (stays handheld message store reply n) (stays handheld message area reply' n)
  stay n h k = untouched n h k refl refl

  turn_down : (n : ℕ) → 1 ≤ n → n ≤ 5 → Paired (turned_down handheld message store reply n 0) (turned_down handheld message area reply' n 0)
  turn_down n h k = answered n 0 no_hash k (refl, refl) (λ e. absurd (omega (arith, h, e)))

  -- ---- a request, and a query

  -- a request comes to one thing, from one set of tables
  one_judged : {c c' : Coding} {count count' : ℕ} {settings settings' : List ℕ} (o o' : Outcome Setting Tables) → RequestOf c count settings message → RequestOf c' count' settings' message
      → Judged c handheld count (forget t) settings o → Judged c' handheld count' (forget t) settings' o' → o ≡ o'
  one_judged {c} {c'} {count} {count'} {settings} {settings'} o o' r r' j j' =
      let (n, s) = request_one r r' in
      let z : Judged c' handheld count' (forget t) settings' o
      = subst (λ (d : Coding). Judged d handheld count' (forget t) settings' o) (one_coding r r') (subst₂ (λ (i : ℕ) (l : List ℕ). Judged c handheld i (forget t) l o) n s j) in
      judged_determined c' handheld count' (forget t) settings' o o' z j'

  -- what its outcome leaves on both
  by_outcome : (x y : AfterTaking) (c : Coding) (count : ℕ) (settings : List ℕ) (o : Outcome Setting Tables) → RequestOf c count settings message → Judged c handheld count (forget t) settings o
      → x ≡ settled handheld message store reply o → y ≡ plain_settled message area reply' log o → Paired x y
  by_outcome x y c count settings (refused number failed) r j e d =
      let (h, k) = numbered c handheld (forget t) j in
      answered number failed no_hash (omega (arith, k)) (e, d) (λ z. absurd (omega (arith, h, z)))
  by_outcome x y c count settings (kept l u) r j e d = by (leb (4 + length (log_bytes (log ++ (message ∷ [])))) area_size) refl
    where
      good : Good message t l u
      good = record { coding = c; count = count; settings = settings; request = r; judged = j }

      by : (b : Bool) → leb (4 + length (log_bytes (log ++ (message ∷ [])))) area_size ≡ b → Paired x y
      by true q =
          let f : 4 + length (log_bytes (log ++ (message ∷ []))) ≤ area_size = leb-true (4 + length (log_bytes (log ++ (message ∷ [])))) area_size q in
          both_take l u good f (e, d ∙ fits_behind message area reply' log _ f)
      by false q =
          let f : area_size < 4 + length (log_bytes (log ++ (message ∷ []))) = leb_not (4 + length (log_bytes (log ++ (message ∷ [])))) area_size q in
          past_end l u good f e (d ∙ passes_end message area reply' log _ f)

  -- a query is answered alike, and is no request
  by_query : (x y : AfterTaking) (h k : Hash) → Query h message → Asked handheld message store reply h k x → Asked handheld message area reply' h k y → Paired x y
  by_query x y h k q (inl (_, _, e)) (inl (_, _, d)) = answered 0 0 k (omega arith) (e, d) (λ z c count settings r. not_both r q)
  by_query x y h k q (inl (n, s, e)) (inr (never, d)) = absurd (never n s)
  by_query x y h k q (inr (never, e)) (inl (n, s, d)) = absurd (never n s)
  by_query x y h k q (inr (_, e)) (inr (_, d)) = answered 5 0 k (omega arith) (e, d) (λ z. absurd (omega (arith, z)))

  -- what a message comes to that none of the tests turns down
  comes : (x y : AfterTaking) → AsRequest handheld message store reply t x ⊎ AsQuery handheld message store reply t x
      → PlainRequest message area reply' log t y ⊎ AsQuery handheld message area reply' t y → Paired x y
  comes x y (inl (c, count, settings, r, o, j, e)) (inl (c', count', settings', r', o', j', d)) =
      by_outcome x y c count settings o r j e (d ∙ ap (plain_settled message area reply' log) (sym (one_judged o o' r r' j j')))
  comes x y (inl (c, count, settings, r, o, j, e)) (inr (h, q, a)) = absurd (not_both r q)
  comes x y (inr (h, q, a)) (inl (c, count, settings, r, o, j, e)) = absurd (not_both r q)
  comes x y (inr (h, q, a)) (inr (k, p, b)) =
      by_query x y k t.hash p (subst (λ (z : Hash). Asked handheld message store reply z t.hash x) (query_hash q p) a) b

  -- ---- the tests

  module _ (holds : Holds handheld t store) (area_is : AreaOf area log t) where
    -- the foot of both ladders
    both_handled : (x y : AfterTaking) → Handled handheld message store reply x → PlainHandled message area reply' y → Paired x y
    both_handled x y p q =
        let e : p.tables ≡ t = one_tables handheld store p.tables t p.holds holds in
        let (i, j) = area_determined area q.log log q.tables t q.area_is area_is in
        comes x y (subst (λ (z : Tables). AsRequest handheld message store reply z x ⊎ AsQuery handheld message store reply z x) e p.comes_to)
        (subst₂ (λ (l : List (List ℕ)) (z : Tables). PlainRequest message area reply' l z y ⊎ AsQuery handheld message area reply' z y) i j q.comes_to)

    -- PAIRED: one message, given to both, comes to one of these
    pub paired : (length reply < 20) ↔ (length reply' < 20) → (x y : AfterTaking) → Answers (taken handheld message store reply) x → Answers (plain_taken message area reply') y → Paired x y
    paired side x y a b = matched all x y a b
      where
        all : Matched Paired (taken handheld message store reply) (plain_taken message area reply')
        all =
            rungs side (stay 10 (omega arith) (omega arith))
            (rungs (good_both store area log t holds area_is) (stay 11 (omega arith) (omega arith))
            (rungs iff_rfl (stay 12 (omega arith) (omega arith))
            (rungs iff_rfl (stay 13 (omega arith) (omega arith))
            (rungs iff_rfl (stay 14 (omega arith) (omega arith))
            (rungs iff_rfl (turn_down 1 (omega arith) (omega arith))
            (rungs iff_rfl (turn_down 4 (omega arith) (omega arith))
            (feet both_handled)))))))
