-- A channel add sent twice: docs/RULES.md, D6, "A channel add does not", in the handheld's fresh store. Assumes nothing.
use Rattle.lists.proofs.Kit.{ℕ, ◌≡◌, refl, sym, ap, ◌∙◌, ◌≢◌, List, [], ◌∷◌, arith, length, lit≤}
use Rattle.writing.specs.declared.Coding.TheVariants.{Unicode16}
use Rattle.writing.specs.declared.Kind.TheVariants.{Channels}
use Rattle.writing.specs.declared.Operation.TheVariants.{Add}
use Rattle.writing.specs.Settings.{Setting, channels}
use Rattle.writing.specs.Writing.{request_head}
use Rattle.writing.proofs.Computed.{written, shown}
use Rattle.read_carrier.proofs.TrueLength.{plain_carries}
use Rattle.tables.specs.Forms.{layout}
use Rattle.tables.specs.Limits.{handheld}
use Rattle.tables.specs.Owns.{put_own}
use Rattle.tables.specs.Store.{StoreOf}
use Rattle.tables.specs.Tables.{Tables, fresh}
use Rattle.tables.proofs.FreshLaws.{fresh_allowed}
use Rattle.shared_texts.proofs.Forms.{layout_one, holds_store}
use Rattle.station.specs.Taking.{AfterTaking}
use Rattle.joining.specs.Joining.{Joinable}
use Rattle.laws_joining.specs.Sending.{Sent, add_241}
use Rattle.laws_joining.proofs.OneRequest.{Full, all_full}

abbrev adding : List Setting
adding = channels Add (241 ∷ []) ∷ []

-- its bytes
abbrev setting_bytes : List ℕ
setting_bytes = 0xCE ∷ 0x00 ∷ 0x06 ∷ 0x40 ∷ 0x01 ∷ 0x0F ∷ 0x1F ∷ []

-- they are a request, which might be joined
joinable : Joinable 4096 Unicode16 adding setting_bytes add_241
joinable = record {
  size = (lit≤ tt, lit≤ tt);
  request = record {
    data_bytes = 0x08 ∷ 0x01 ∷ setting_bytes;
    carried = (plain_carries 7 (0x08 ∷ 0x01 ∷ setting_bytes) (lit≤ tt) (lit≤ tt)).0;
    counted = record { head = 0x08 ∷ 0x01 ∷ []; parts = refl; says = (shown (request_head 1) 2 (0x08 ∷ 0x01 ∷ []) refl tt refl).1; some_setting = lit≤ tt };
  };
  written = (setting_bytes, [], refl, written Unicode16 (channels Add (241 ∷ [])) setting_bytes tt refl, refl);
  in_range = (((lit≤ tt, lit≤ tt), tt), tt);
}

-- the tables after it, once and twice
abbrev with_channels : List ℕ → Tables
with_channels ns = put_own Channels fresh ns

module _ {x y : AfterTaking} (sent : Sent handheld add_241 (layout handheld fresh) x) (again : Sent handheld add_241 x.store y) where
  -- ADD TWICE: a fresh handheld takes it both times, and has another store than after the first
  pub add_twice : (x.answer.number ≡ 0) × (y.answer.number ≡ 0) × (y.store ≢ x.store)
  add_twice =
      let new : StoreOf handheld (layout handheld fresh) = holds_store handheld fresh (layout handheld fresh) (omega arith) (fresh_allowed handheld, refl) in
      let once : Full new joinable sent fresh (fresh_allowed handheld, refl) (with_channels (241 ∷ []))
      = all_full new joinable sent fresh (fresh_allowed handheld, refl) (with_channels (241 ∷ [])) refl in
      let next : StoreOf handheld x.store = holds_store handheld (with_channels (241 ∷ [])) x.store (omega arith) once.holds in
      let both : Full next joinable again (with_channels (241 ∷ [])) once.holds (with_channels (241 ∷ 241 ∷ []))
      = all_full next joinable again (with_channels (241 ∷ [])) once.holds (with_channels (241 ∷ 241 ∷ [])) refl in (
        once.number,
        both.number,
        λ e. omega (
          arith,
          ap (λ (t : Tables). length t.channels) (layout_one handheld (with_channels (241 ∷ 241 ∷ [])) (with_channels (241 ∷ []))
              both.holds.0 once.holds.0 (sym both.holds.1 ∙ e ∙ once.holds.1)),
        ),
      )
