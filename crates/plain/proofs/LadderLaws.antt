-- A message to an area climbs the ladder of tests as it was read. Assumes nothing.
use Rattle.lists.proofs.Kit.{ℕ, ◌≤◌, ◌≡◌, refl, ◌⊎◌, inl, inr, List, arith, length, drop}
use Rattle.lists.specs.Ladder.{Ladder, rung, foot, Answers}
use Rattle.writing.specs.Carrier.{Opens, InSize, NothingCarried, OtherType, OtherVersion, NoRequest, NoQuery, RequestOf, Query}
use Rattle.writing.specs.declared.Coding.{Coding}
use Rattle.writing.specs.Settings.{Hash}
use Rattle.read_carrier.specs.Message.{MessageIs}
use Rattle.read_carrier.specs.declared.carrier.Message.{Message}
use Rattle.read_carrier.specs.declared.carrier.Message.TheVariants.{Size, Carrier, «Type» as AnotherType, Version, NoRequest as NotRequest, Request, NoQuery as NotQuery, Query as AQuery}
use Rattle.read_carrier.proofs.KindLaws.{request_opens, other_type, other_version, opens_no_query, opens_no_request, uncounted}
use Rattle.read_carrier.proofs.MessageOne.{query_opens}
use Rattle.tables.specs.Limits.{handheld}
use Rattle.station.specs.Taking.{AfterTaking, stays, turned_down}
use Rattle.plain_log.specs.Area.{IsArea}
use Rattle.plain.specs.Plain.{PlainHandled, plain_taken}

module _ (message area reply : List ℕ) where
  -- the ladder from the rung of 4 on, from that of 1 on, and from that of 12 on
  abbrev pub from_4 : Ladder AfterTaking
  from_4 = rung (NoRequest message × NoQuery message) (turned_down handheld message area reply 4 0) (foot (PlainHandled message area reply))

  abbrev pub from_1 : Ladder AfterTaking
  from_1 = rung (OtherVersion message) (turned_down handheld message area reply 1 0) from_4

  abbrev pub from_12 : Ladder AfterTaking
  from_12 =
      rung (InSize handheld.message message → ⊥) (stays handheld message area reply 12)
      (rung (NothingCarried message) (stays handheld message area reply 13)
      (rung (OtherType message) (stays handheld message area reply 14) from_1))

module _ (message area reply : List ℕ) (x : AfterTaking) (big : 20 ≤ length reply) (s : IsArea area) where
  -- what comes after 10 and 11
  past_11 : Answers (from_12 message area reply) x → Answers (plain_taken message area reply) x
  past_11 a = inr (λ h. omega arith, inr (λ n. n s, a))

  -- where a message opens as a request or a query, what comes after 14
  past_14 : {v k c : ℕ} {d : List ℕ} → InSize handheld.message message → Opens v k c d message → (k ≡ 0) ⊎ (k ≡ 5)
      → Answers (from_1 message area reply) x → Answers (plain_taken message area reply) x
  past_14 {v} {k} {c} {d} i o t a = past_11 (inr (λ n. n i, inr (λ n. n c d o.carried, inr (λ n. n v k c d t o, a))))

  -- with version 1, what comes after 1
  past_1 : {k c : ℕ} {d : List ℕ} → InSize handheld.message message → Opens 1 k c d message → (k ≡ 0) ⊎ (k ≡ 5)
      → Answers (from_4 message area reply) x → Answers (plain_taken message area reply) x
  past_1 {k} {c} {d} i o t a = past_14 i o t (inr (λ n. n k c d o, a))

  -- a request in size
  pub request_climbs : (c : Coding) (count : ℕ) (settings : List ℕ) → InSize handheld.message message → RequestOf c count settings message → PlainHandled message area reply x → Answers (plain_taken message area reply) x
  request_climbs c count settings i r p = past_1 i (request_opens r) (inl refl) (inr (λ n. n.0 c count settings r, p))

  -- a query in size
  pub query_climbs : (h : Hash) → InSize handheld.message message → Query h message → PlainHandled message area reply x → Answers (plain_taken message area reply) x
  query_climbs h i q p = past_1 i (query_opens q) (inr refl) (inr (λ n. n.1 h q, p))

  -- what each kind comes to, as it was read
  abbrev pub ByKind : Message → Type 0
  ByKind Size = x ≡ stays handheld message area reply 12
  ByKind Carrier = x ≡ stays handheld message area reply 13
  ByKind AnotherType = x ≡ stays handheld message area reply 14
  ByKind Version = x ≡ turned_down handheld message area reply 1 0
  ByKind NotRequest = x ≡ turned_down handheld message area reply 4 0
  ByKind NotQuery = x ≡ turned_down handheld message area reply 4 0
  ByKind (AQuery p) = PlainHandled message area reply x
  ByKind (Request count at c) = PlainHandled message area reply x

  -- BY KIND: a message to an area, by what it was read as
  pub by_kind : (k : Message) → MessageIs handheld.message message k → ByKind k → Answers (plain_taken message area reply) x
  by_kind Size z e = past_11 (inl (z, e))
  by_kind Carrier z e = past_11 (inr (λ n. n z.0, inl (z.1, e)))
  by_kind AnotherType z e = past_11 (inr (λ n. n z.0, inr (λ n. n z.3 z.4 z.5.carried, inl (other_type z.5 z.6 z.7, e))))
  by_kind Version z e = past_14 z.0 z.5 z.6 (inl (other_version z.5 z.7, e))
  by_kind NotRequest z e = past_1 z.0 z.3 (inl refl) (inl ((uncounted z.3 z.4, opens_no_query z.3 refl), e))
  by_kind NotQuery z e = past_1 z.0 z.3 (inr refl) (inl ((opens_no_request z.3 refl, z.4), e))
  by_kind (AQuery p) z e = query_climbs z.1 z.0 z.2 e
  by_kind (Request count at c) z e = request_climbs c count (drop at message) z.0 (record { data_bytes = z.1; carried = z.2; counted = z.3 }) e
