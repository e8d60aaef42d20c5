-- An area read request by request: what was read is all that an area can have there. Assumes nothing.
use Rattle.lists.proofs.Kit.{ℕ, ◌≤◌, ◌<◌, ◌+◌, ◌*◌, ◌-◌, ◌≡◌, refl, sym, ap, ap₂, ◌∙◌, subst, subst⁻¹, subst₂, List, [], ◌∷◌, ◌++◌, map, map-append, append-nil, append_assoc, Bool, true, false, true≢false, length, drop, get_or, replicate, length-append, length-drop, take-append-drop, take_all, drop-drop, drop-append_seam, arith, mid_of}
use Rattle.lists.specs.Bytes.{Bytes}
use Rattle.slots.specs.Slots.{flat, u16, zeros?}
use Rattle.slots.proofs.Numbers.{u16_of}
use Rattle.slots.proofs.Parts.{flat_append}
use Rattle.slots.proofs.Runs.{zeros_all, zeros_are}
use Rattle.writing.specs.declared.Coding.{Coding}
use Rattle.writing.specs.Settings.{Setting}
use Rattle.writing.specs.Ranges.{no_hash}
use Rattle.read_fields.specs.declared.hashes.HashPlace.{HashPlace}
use Rattle.read_fields.proofs.Parts.{nothing}
use Rattle.read_carrier.proofs.KindLaws.{request_one, one_coding}
use Rattle.tables.specs.Limits.{handheld}
use Rattle.tables.specs.Tables.{Tables, fresh}
use Rattle.requests.specs.Judge.{Outcome, kept, refused}
use Rattle.requests.specs.Requests.{Judged, forget}
use Rattle.laws_taking.proofs.Determined.{judged_determined}
use Rattle.read_deeds.specs.Cursors.{log_deeds}
use Rattle.plain_judge.specs.Judging.{Weights, Logged, HashStands}
use Rattle.std.specs.declared.option.Option.TheVariants.{Some, None}
use Rattle.plain_log.specs.Area.{area_size, record_bytes, log_bytes, area_bytes, TakenFrom, TakenInTurn, none_taken, then_taken, AreaOf, IsArea}
use Rattle.plain_log.specs.Frames.{UsedRead}
use Rattle.plain_log.specs.Checking.{AreaSeen, AreaIs, RecordIs}
use Rattle.plain_log.proofs.FrameLaws.{area_framed, log_more, log_longer}
use Rattle.plain_log.proofs.RecordLaws.{two_first, frame_one}
use Rattle.plain_log.proofs.LogLaws.{RecordsTo, records_more, logged_more, logged_forget, weights_forget, logged_none, weights_none}

-- ---- taken in turn

-- one request more
taken_more : {t u v : Tables} {m : List ℕ} {l : List Setting} {log : List (List ℕ)} → TakenInTurn handheld t log u → TakenFrom handheld u m l v → TakenInTurn handheld t (log ++ (m ∷ [])) v
taken_more none_taken k = then_taken k none_taken
taken_more (then_taken h q) k = then_taken h (taken_more q k)

-- the tables that are left, where any are
abbrev left_by : Tables → Outcome Setting Tables → Tables
left_by t (kept l u) = u
left_by t (refused n f) = t

-- a request leaves one set of tables
taken_one : (t : Tables) (m : List ℕ) (k l : List Setting) (u v : Tables) → TakenFrom handheld t m k u → TakenFrom handheld t m l v → u ≡ v
taken_one t m k l u v a b =
    let (n, e) = request_one a.request b.request in
    let j : Judged b.coding handheld b.count (forget t) b.bytes (kept k u)
    = subst (λ (d : Coding). Judged d handheld b.count (forget t) b.bytes (kept k u)) (one_coding a.request b.request)
    (subst₂ (λ (i : ℕ) (x : List ℕ). Judged a.coding handheld i (forget t) x (kept k u)) n e a.judged) in
    ap (left_by t) (judged_determined b.coding handheld b.count (forget t) b.bytes (kept k u) (kept l v) j b.judged)

-- the first of requests that have bytes
record First (t : Tables) (log : List (List ℕ)) (v : Tables) : Type 0 where
  message : List ℕ
  rest : List (List ℕ)
  settings : List Setting
  tables : Tables
  parts : log ≡ message ∷ rest
  taken : TakenFrom handheld t message settings tables
  others : TakenInTurn handheld tables rest v

-- they have one
first_of : {t v : Tables} {log : List (List ℕ)} → TakenInTurn handheld t log v → 0 < length (log_bytes log) → First t log v
first_of none_taken h = absurd (omega (arith, h))
first_of (then_taken {u = u} {message = m} {l = l} {log = rest} k q) h = record { message = m; rest = rest; settings = l; tables = u; parts = refl; taken = k; others = q }

-- ---- the bytes of an area from a place on

-- what was found of the frame: its used length, and zeros behind the requests
pub record Frame (s : List ℕ) (used end : ℕ) : Type 0 where
  pub used_is : UsedRead s used
  pub small : used ≤ 32764
  pub ends : end ≡ 4 + used
  pub zeros : zeros? (drop end s) ≡ true
  pub bytes : Bytes s

-- the bytes of requests after requests
log_append : (a b : List (List ℕ)) → log_bytes (a ++ b) ≡ log_bytes a ++ log_bytes b
log_append a b = ap flat (map-append record_bytes a b) ∙ flat_append (map record_bytes a) (map record_bytes b)

-- behind the used length
area_behind : (s : List ℕ) (log : List (List ℕ)) → s ≡ area_bytes log → 4 + length (log_bytes log) ≤ area_size → drop 4 s ≡ log_bytes log ++ replicate (area_size - (4 + length (log_bytes log))) 0
area_behind s log e h = ap (drop 4) (e ∙ area_framed log h)

-- and behind requests
rest_behind : (s : List ℕ) (a b : List (List ℕ)) (at : ℕ) → s ≡ area_bytes (a ++ b) → 4 + length (log_bytes (a ++ b)) ≤ area_size → at ≡ 4 + length (log_bytes a)
    → (drop at s ≡ log_bytes b ++ replicate (area_size - (4 + length (log_bytes (a ++ b)))) 0) × (length (log_bytes (a ++ b)) ≡ length (log_bytes a) + length (log_bytes b))
rest_behind s a b at e h p =
    let z : ℕ = area_size - (4 + length (log_bytes (a ++ b))) in
    let d : drop 4 s ≡ log_bytes a ++ (log_bytes b ++ replicate z 0) = area_behind s (a ++ b) e h ∙ ap (λ (l : List ℕ). l ++ replicate z 0) (log_append a b) ∙ append_assoc (log_bytes a) (log_bytes b) (replicate z 0) in (
      ap (λ (i : ℕ). drop i s) p ∙ sym (drop-drop (length (log_bytes a)) 4 s) ∙ ap (drop (length (log_bytes a))) d ∙ drop-append_seam (log_bytes a) (log_bytes b ++ replicate z 0),
      ap length (log_append a b) ∙ length-append (log_bytes a) (log_bytes b),
    )

-- where they end, an area has zeros
pub zeros_behind : (s : List ℕ) (log : List (List ℕ)) (end : ℕ) → s ≡ area_bytes log → 4 + length (log_bytes log) ≤ area_size → end ≡ 4 + length (log_bytes log) → zeros? (drop end s) ≡ true
zeros_behind s log end e h p =
    let a : log ++ [] ≡ log = append-nil log in
    ap zeros? (rest_behind s log [] end (e ∙ sym (ap area_bytes a)) (subst⁻¹ (λ (x : List (List ℕ)). 4 + length (log_bytes x) ≤ area_size) a h) p).0 ∙ zeros_all (area_size - (4 + length (log_bytes (log ++ []))))

-- a used length, requests and zeros are an area
area_made : (s : List ℕ) (used end : ℕ) (log : List (List ℕ)) → Frame s used end → used ≡ length (log_bytes log) → drop 4 s ≡ log_bytes log ++ drop end s → s ≡ area_bytes log
area_made s used end log f u d =
    let long : length s ≡ area_size = f.used_is.size in
    let (a, b, c) = f.used_is.there in
    let two : u16 (length (log_bytes log)) ≡ get_or s 2 0 ∷ get_or s 3 0 ∷ [] = ap u16 (sym u ∙ c) ∙ u16_of (get_or s 2 0) (get_or s 3 0) (f.bytes 3) in
    let left : length (drop end s) ≡ area_size - (4 + length (log_bytes log)) = omega (arith, length-drop end s, long, f.ends, u) in
    let tail : drop end s ≡ replicate (area_size - (4 + length (log_bytes log))) 0 = zeros_are (drop end s) f.zeros ∙ ap (λ (i : ℕ). replicate i 0) left in
    two_first s 0 (omega (arith, long))
    ∙ ap₂ (λ (x y : ℕ). x ∷ y ∷ drop 2 s) a b
    ∙ ap (λ (l : List ℕ). 0 ∷ 0 ∷ l) (two_first s 2 (omega (arith, long)) ∙ ap₂ (λ (x y : List ℕ). x ++ y) (sym two) (d ∙ ap (λ (l : List ℕ). log_bytes log ++ l) tail))
    ∙ sym (area_framed log (omega (arith, f.small, u)))

-- ---- so far

-- the requests that were read are taken in turn and stand up to a place, with their deeds, weights and hash; and every area of these bytes begins with them
pub record So (s : List ℕ) (at deeds : ℕ) (p : HashPlace) (vs : List ℕ) : Type 0 where
  pub log : List (List ℕ)
  pub tables : Tables
  pub settings : List (List Setting)
  pub taken : TakenInTurn handheld fresh log tables
  pub place : at ≡ 4 + length (log_bytes log)
  pub bytes : drop 4 s ≡ log_bytes log ++ drop at s
  pub records : RecordsTo s 4 settings at
  pub logged : Logged s deeds (log_deeds settings) tables
  pub weights : Weights vs tables
  pub hash : HashStands s p tables.hash
  pub few : deeds * 9 + 4 * 0x40001 ≤ 0x40001 * at
  pub only : (other : List (List ℕ)) (t : Tables) → AreaOf s other t → (rest : List (List ℕ)) × (other ≡ log ++ rest) × TakenInTurn handheld tables rest t

-- at the start
pub so_start : (s ws : List ℕ) → ws ≡ replicate 27 0 → So s 4 0 (record { code = 0; start = 0 }) ws
so_start s ws e = record {
  log = [];
  tables = fresh;
  settings = [];
  taken = none_taken;
  place = refl;
  bytes = refl;
  records = refl;
  logged = logged_none s;
  weights = weights_none ws e;
  hash = record { code = refl; size = no_hash; stands = nothing s 0 };
  few = omega arith;
  only = λ other t a. (other, refl, a.taken);
}

-- at the end
pub so_seen : (s : List ℕ) (used end at deeds : ℕ) (p : HashPlace) (vs : List ℕ) → Frame s used end → So s at deeds p vs → at ≡ end → AreaSeen s vs (record { used = used; deeds = deeds; hash = p })
so_seen s used end at deeds p vs f h e =
    let u : used ≡ length (log_bytes h.log) = omega (arith, f.ends, h.place, e) in
    record {
      log = h.log;
      tables = h.tables;
      area = record { bytes = area_made s used end h.log f u (h.bytes ∙ ap (λ (i : ℕ). log_bytes h.log ++ drop i s) e); fits = omega (arith, u, f.small); taken = h.taken };
      used = u;
      deeds = log_deeds h.settings;
      logged = h.logged;
      weights = h.weights;
      hash = h.hash;
    }

module _ (s : List ℕ) (used end at deeds : ℕ) (p : HashPlace) (vs : List ℕ) (f : Frame s used end) (h : So s at deeds p vs) (before : at < end) where
  -- an area of these bytes has a request there
  record Next (other : List (List ℕ)) (t : Tables) : Type 0 where
    rest : List (List ℕ)
    parts : other ≡ h.log ++ rest
    first : First h.tables rest t
    behind : List ℕ
    stands : drop at s ≡ record_bytes first.message ++ behind
    inside : at + 2 + length first.message ≤ end

  -- the one behind those that were read
  next_of : (other : List (List ℕ)) (t : Tables) → AreaOf s other t → Next other t
  next_of other t a =
      let (rest, e, q) = h.only other t a in
      let fits : 4 + length (log_bytes (h.log ++ rest)) ≤ area_size = subst (λ (x : List (List ℕ)). 4 + length (log_bytes x) ≤ area_size) e a.fits in
      let (d, l) = rest_behind s h.log rest at (a.bytes ∙ ap area_bytes e) fits h.place in
      let u : used ≡ length (log_bytes (h.log ++ rest)) = f.used_is.used other a.bytes a.fits ∙ ap (λ (x : List (List ℕ)). length (log_bytes x)) e in
      let z : List ℕ = replicate (area_size - (4 + length (log_bytes (h.log ++ rest)))) 0 in
      let k : First h.tables rest t = first_of q (omega (arith, l, u, f.ends, h.place, before)) in
      let b : log_bytes rest ≡ record_bytes k.message ++ log_bytes k.rest = ap log_bytes k.parts in
      let lb : length (log_bytes rest) ≡ 2 + length k.message + length (log_bytes k.rest) = ap length b ∙ length-append (record_bytes k.message) (log_bytes k.rest) ∙ omega arith in
      record {
        rest = rest;
        parts = e;
        first = k;
        behind = log_bytes k.rest ++ z;
        stands = d ∙ ap (λ (x : List ℕ). x ++ z) b ∙ append_assoc (record_bytes k.message) (log_bytes k.rest) z;
        inside = omega (arith, l, u, f.ends, h.place, lb);
      }

  -- what was found of the tables so far, without their hash
  found : Logged s deeds (log_deeds h.settings) (forget h.tables) × Weights vs (forget h.tables)
  found = (logged_forget s deeds (log_deeds h.settings) h.tables h.logged, weights_forget vs h.tables h.weights)

  -- the area's end
  long : end ≤ length s
  long = omega (arith, f.used_is.size, f.small, f.ends)

  -- no request is taken there
  pub so_none : (us : List ℕ) → RecordIs s at end deeds vs us None → IsArea s → ⊥
  so_none us r (other, t, a) =
      let n = next_of other t a in
      r (log_deeds h.settings) h.tables found.0 found.1 long n.first.message n.first.settings n.first.tables n.behind n.first.taken n.stands n.inside

  module _ (next k : ℕ) (q : HashPlace) (us : List ℕ) (r : RecordIs s at end deeds vs us (Some (record { next = next; deeds = k; hash = q }))) where
    -- the request read is there and has so many deeds
    pub so_there : (at < next) × (next ≤ end) × (k ≤ 0x40000)
    so_there = let (l, u, m, tk, fr, nx, ne, ra, kk, kf, sh, w, hs) = r (log_deeds h.settings) h.tables found.0 found.1 in (omega (arith, nx), ne, kf)

    -- one request more
    pub so_more : So s next (deeds + k + 1) q us
    so_more =
        let (l, u, m, tk, fr, nx, ne, ra, kk, kf, sh, w, hs) = r (log_deeds h.settings) h.tables found.0 found.1 in
        let to : at + (next - at) ≡ next = omega (arith, nx) in
        let st : drop at s ≡ record_bytes m ++ drop next s
        = sym (take-append-drop (next - at) (drop at s)) ∙ ap₂ (λ (x y : List ℕ). x ++ y) fr (drop-drop (next - at) at s ∙ ap (λ (i : ℕ). drop i s) to) in
        let few : (deeds + k + 1) * 9 + 4 * 0x40001 ≤ 0x40001 * next = omega (arith, h.few, kf, nx, tk.in_size.0) in
        let recs = records_more s 4 h.settings at l next h.records ra in
        record {
          log = h.log ++ (m ∷ []);
          tables = u;
          settings = h.settings ++ (l ∷ []);
          taken = taken_more h.taken tk;
          place = omega (arith, nx, h.place, log_longer h.log m);
          bytes = h.bytes ∙ ap (λ (x : List ℕ). log_bytes h.log ++ x) st ∙ sym (append_assoc (log_bytes h.log) (record_bytes m) (drop next s)) ∙ ap (λ (x : List ℕ). x ++ drop next s) (sym (log_more h.log m));
          records = recs;
          logged = logged_more s h.settings next k deeds tk.count tk.coding tk.bytes h.tables u l recs h.logged tk.judged kk sh (omega (arith, few, ne, f.ends, f.small));
          weights = w;
          hash = hs;
          few = few;
          only = λ other t a.
              let n = next_of other t a in
              let g = n.first in
              let x = frame_one s at m (drop next s) st in
              let y = frame_one s at g.message n.behind n.stands in
              let same : g.message ≡ m = sym y.2 ∙ ap (λ (i : ℕ). mid_of (at + 2) i s) (sym y.0 ∙ x.0) ∙ x.2 in
              let one : g.tables ≡ u = taken_one h.tables m g.settings l g.tables u (subst (λ (b : List ℕ). TakenFrom handheld h.tables b g.settings g.tables) same g.taken) tk in (
                g.rest,
                n.parts ∙ ap (λ (b : List (List ℕ)). h.log ++ b) (g.parts ∙ ap (λ (b : List ℕ). b ∷ g.rest) same) ∙ sym (append_assoc h.log (m ∷ []) g.rest),
                subst (λ (v : Tables). TakenInTurn handheld v g.rest t) one g.others,
              );
        }

-- ---- turn by turn

-- the frame is an area's, and where the numbers were 0 so far
abbrev pub Turn : (s ws : List ℕ) (used end at deeds : ℕ) → HashPlace → List ℕ → Type 0
Turn s ws used end at deeds p vs = Frame s used end × (ws ≡ replicate 27 0 → So s at deeds p vs × (at ≤ end))

-- the frame that was found
pub frame_here : (s : List ℕ) (used : ℕ) (r : Bool) → UsedRead s used → used ≤ 32764 → Bytes s → r ≡ zeros? (mid_of (4 + used) (length s - (4 + used)) s) → r ≡ true → Frame s used (4 + used)
frame_here s used r u h b e t =
    record { used_is = u; small = h; ends = refl; zeros = ap zeros? (sym (take_all (length s - (4 + used)) (drop (4 + used) s) (omega (arith, length-drop (4 + used) s)))) ∙ sym e ∙ t; bytes = b }

-- other bytes than zeros behind the requests are no area
pub frame_not : (s ws vs : List ℕ) (used : ℕ) (r : Bool) → UsedRead s used → r ≡ zeros? (mid_of (4 + used) (length s - (4 + used)) s) → r ≡ false → AreaIs s ws vs None
frame_not s ws vs used r u e t z (log, tables, a) =
    let n : 4 + used ≡ 4 + length (log_bytes log) = ap (λ (i : ℕ). 4 + i) (u.used log a.bytes a.fits) in
    let y : zeros? (drop (4 + used) s) ≡ true = zeros_behind s log (4 + used) a.bytes a.fits n in
    true≢false (sym y ∙ ap zeros? (sym (take_all (length s - (4 + used)) (drop (4 + used) s) (omega (arith, length-drop (4 + used) s)))) ∙ sym e ∙ t)

-- nor is a used length past the end
pub used_not : (s ws vs : List ℕ) (used : ℕ) → UsedRead s used → 32764 < used → AreaIs s ws vs None
used_not s ws vs used u h z (log, tables, a) = omega (arith, h, u.used log a.bytes a.fits, a.fits)

-- before the first request
pub turn_start : (s ws : List ℕ) (used : ℕ) → Frame s used (4 + used) → Turn s ws used (4 + used) 4 0 (record { code = 0; start = 0 }) ws
turn_start s ws used f = (f, λ z. (so_start s ws z, omega arith))

module _ (s ws : List ℕ) (used end at deeds : ℕ) (p : HashPlace) (vs : List ℕ) (turn : Turn s ws used end at deeds p vs) where
  -- all requests were read
  pub turn_end : end ≤ at → AreaIs s ws vs (Some (record { used = used; deeds = deeds; hash = p }))
  turn_end h z = let (k, l) = turn.1 z in so_seen s used end at deeds p vs turn.0 k (omega (arith, h, l))

  -- there cannot be so many deeds
  pub turn_many : (us : List ℕ) → 0x100000000 ≤ deeds → AreaIs s ws us None
  turn_many us h z a = omega (arith, h, (turn.1 z).0.logged.few)

  module _ (before : at < end) (us : List ℕ) where
    -- no request is taken there
    pub turn_none : RecordIs s at end deeds vs us None → AreaIs s ws us None
    turn_none r z a = so_none s used end at deeds p vs turn.0 (turn.1 z).0 before us r a

    module _ (next k : ℕ) (q : HashPlace) (r : RecordIs s at end deeds vs us (Some (record { next = next; deeds = k; hash = q }))) where
      -- the request read has bytes
      pub turn_stuck : next ≤ at → AreaIs s ws us None
      turn_stuck h z a = omega (arith, h, (so_there s used end at deeds p vs turn.0 (turn.1 z).0 before next k q us r).0)

      -- and not so many deeds
      pub turn_much : 0x100000000 ≤ k → AreaIs s ws us None
      turn_much h z a = omega (arith, h, (so_there s used end at deeds p vs turn.0 (turn.1 z).0 before next k q us r).2)

      -- one request more was read
      pub turn_more : Turn s ws used end next (deeds + k + 1) q us
      turn_more = (turn.0, λ z. (so_more s used end at deeds p vs turn.0 (turn.1 z).0 before next k q us r, (so_there s used end at deeds p vs turn.0 (turn.1 z).0 before next k q us r).1))
