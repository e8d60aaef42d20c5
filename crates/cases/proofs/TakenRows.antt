-- Rows of taking: requests of one setting, the reply and the tables that they leave. Assumes nothing.
use Rattle.lists.proofs.Kit.{ℕ, ◌≤◌, ◌≡◌, refl, sym, subst, List, [], ◌∷◌, ◌++◌, some, arith, T, leb, leb→le, length}
use Rattle.lists.proofs.Bytes.{all_bytes}
use Rattle.lists.proofs.Every.{all?}
use Rattle.lists.specs.Ladder.{Answers}
use Rattle.writing.specs.Canonical.{canonical}
use Rattle.writing.specs.Carrier.{RequestOf}
use Rattle.writing.specs.Ranges.{text_limits, InRange}
use Rattle.writing.specs.Settings.{Setting, unicode16}
use Rattle.writing.specs.Writing.{fields}
use Rattle.writing.proofs.CanonicalLaws.{plain_bytes}
use Rattle.writing.proofs.Computed.{fits?, written}
use Rattle.tables.specs.Allowed.{Allowed}
use Rattle.tables.specs.Apply.{apply}
use Rattle.tables.specs.Forms.{layout}
use Rattle.tables.specs.Limits.{handheld}
use Rattle.tables.specs.Tables.{Tables, no_hash}
use Rattle.shared_texts.proofs.Forms.{holds_store}
use Rattle.requests.specs.Judge.{kept, done, step, taken as all_taken}
use Rattle.station.specs.Replies.{reply_bytes}
use Rattle.requests.specs.Requests.{Judged, forget, last_item}
use Rattle.station.specs.Taking.{replies, settled, taken}
use Rattle.laws_taking.proofs.Determined.{outcome_determined}
use Rattle.station.proofs.TakeLaws.{request_answers}
use Rattle.export.specs.Exported.{request_bytes}
use Rattle.restore.proofs.Requests.{request_is, request_in_size}
use Rattle.cases.specs.Marked.{Only, CaseHolds, taken_is, took, reply_0}

-- a setting that fits, is in range and has room, sent alone to a set with the tables t, makes them u
module _ (s : Setting) (t u : Tables) (ok : Allowed handheld t) (fit : T (all? fits? (fields unicode16 s))) (range : InRange text_limits 0 s)
    (applied : apply handheld s (forget t) ≡ some u) (plain : last_item (s ∷ []) ≡ last_item []) (none_kept : u.hash ≡ no_hash)
    (short : T (leb (length (request_bytes (s ∷ []))) 4096))
  where
    -- its request is judged good
    judged : Judged unicode16 handheld 1 (forget t) (canonical unicode16 s ++ []) (kept (s ∷ []) u)
    judged =
        all_taken refl (step {w = canonical unicode16 s} {s = s} refl
        (written unicode16 s (canonical unicode16 s) fit refl, all_bytes (canonical unicode16 s) (plain_bytes (fields unicode16 s))) range applied done)

    module _ (store buffer : List ℕ) (holds : store ≡ layout handheld t) (long : 20 ≤ length buffer) where
      -- which leaves the reply and the tables
      settles : took reply_0 u buffer ≡ settled handheld (request_bytes (s ∷ [])) store buffer (kept (s ∷ []) u)
      settles = sym (λ i. replies handheld (request_bytes (s ∷ [])) store buffer 0 0 (plain i).flags.reply (plain i).flags.reboot (none_kept i) (layout handheld u))

      answers : Answers (taken handheld (request_bytes (s ∷ [])) store buffer) (took reply_0 u buffer)
      answers =
          let b : length (request_bytes (s ∷ [])) ≤ 4096 = leb→le _ _ short in
          let r : RequestOf unicode16 1 (canonical unicode16 s ++ []) (request_bytes (s ∷ [])) = request_is (s ∷ []) (omega arith) (omega arith) (omega arith) in
          request_answers handheld (request_bytes (s ∷ [])) store buffer (took reply_0 u buffer) long (holds_store handheld t store (omega arith) (ok, holds)) t (ok, holds)
          (request_in_size 4096 (s ∷ []) b) (unicode16, 1, canonical unicode16 s ++ [], r, kept (s ∷ []) u, judged, settles)

    -- TAKEN: so the request is taken, and nothing else is allowed
    pub taken_row : (message : List ℕ) → request_bytes (s ∷ []) ≡ message → CaseHolds (taken_is t message reply_0 u)
    taken_row message e store buffer holds long =
        subst (λ (x : List ℕ). Only (Answers (taken handheld x store buffer)) (took reply_0 u buffer)) e (record {
          allowed = answers store buffer holds long;
          alone = λ a p. outcome_determined handheld (request_bytes (s ∷ [])) store buffer a (took reply_0 u buffer) p (answers store buffer holds long);
        })
