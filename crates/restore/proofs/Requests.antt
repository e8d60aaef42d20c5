-- REQUESTS: an exported part's bytes have a limit, and are a request of its settings for every set. Assumes nothing.
use Rattle.lists.proofs.Kit.{ℕ, ◌+◌, ◌≤◌, ◌≡◌, refl, List, arith, length}
use Rattle.writing.specs.Canonical.{plain, canonical_all}
use Rattle.writing.specs.Carrier.{Counted, RequestOf, InSize}
use Rattle.writing.specs.Settings.{Setting, unicode16}
use Rattle.writing.specs.Writing.{request_head}
use Rattle.writing.proofs.CanonicalLaws.{plain_shows}
use Rattle.read_carrier.proofs.TrueLength.{plain_carries}
use Rattle.tables.specs.declared.limits.Limits.{Limits}
use Rattle.tables.specs.Allowed.{Allowed}
use Rattle.tables.specs.Tables.{Tables}
use Rattle.tables.specs.Texts.{text_sum}
use Rattle.export.specs.declared.parts.Part.{Part}
use Rattle.export.specs.declared.parts.Part.TheVariants.{Lines, Fixed, QuickTexts, Channels, StatusTexts, Groups, Individuals, GroupContacts, IndividualContacts, LineSlots}
use Rattle.export.specs.Exported.{exported, data_bytes, request_bytes}
use Rattle.export.specs.Exportable.{Exportable}
use Rattle.restore.specs.Restored.{longest, PlacesFor, texts_upto, PartFits}
use Rattle.restore.proofs.Fitting.{exported_readable, exported_count}
use Rattle.restore.proofs.FreshParts.{sum_most}
use Rattle.restore.proofs.TextRooms.{less_room}

-- ---- a request of any settings

-- 8 bytes stand before them
pub request_length : (ss : List Setting) → length (request_bytes ss) ≡ 8 + length (canonical_all unicode16 ss)
request_length ss = omega arith

-- 1 to 255 settings are counted
pub request_counted : (ss : List Setting) → 1 ≤ length ss → length ss ≤ 255 → Counted (length ss) (canonical_all unicode16 ss) (data_bytes ss)
request_counted ss some few = record {
  head = plain (request_head (length ss));
  parts = refl;
  says = plain_shows (request_head (length ss)) 2 refl (omega arith, (omega arith, (omega arith, tt)));
  some_setting = some;
}

-- and are a request, where its length has 16 bits
pub request_is : (ss : List Setting) → 1 ≤ length ss → length ss ≤ 255 → length (request_bytes ss) ≤ 65535
    → RequestOf unicode16 (length ss) (canonical_all unicode16 ss) (request_bytes ss)
request_is ss some few short =
    record { data_bytes = data_bytes ss; carried = (plain_carries 7 (data_bytes ss) (omega arith) (omega arith)).0; counted = request_counted ss some few }

-- and in size, where it is inside the limit
pub request_in_size : (most : ℕ) (ss : List Setting) → length (request_bytes ss) ≤ most → InSize most (request_bytes ss)
request_in_size most ss l = (omega (arith, request_length ss), l)

-- ---- the parts

-- limits that let every part be one request have room for it, within 16 bits
pub longest_fits : (lim : Limits) → Exportable lim → (p : Part) → (longest lim p ≤ lim.message) × (longest lim p ≤ 65535)
longest_fits lim x Lines = (omega (arith, x.lines), omega (arith, x.counted))
longest_fits lim x Fixed = (omega (arith, x.status), omega arith)
longest_fits lim x QuickTexts = (omega (arith, x.status), omega arith)
longest_fits lim x Channels = (omega (arith, x.status, x.channels), omega (arith, x.channels))
longest_fits lim x StatusTexts = (omega (arith, x.status), omega arith)
longest_fits lim x Groups = (omega (arith, x.status), omega arith)
longest_fits lim x Individuals = (omega (arith, x.status), omega arith)
longest_fits lim x GroupContacts = (omega (arith, x.status), omega arith)
longest_fits lim x IndividualContacts = (omega (arith, x.status), omega arith)
longest_fits lim x LineSlots = (omega (arith, x.status), omega arith)

-- where the lines and the channels have places, all parts have
pub places_for : (to : Limits) (t : Tables) → length t.lines ≤ to.lines → length t.channels ≤ to.channels → (p : Part) → PlacesFor to t p
places_for to t l c Lines = l
places_for to t l c Fixed = tt
places_for to t l c QuickTexts = tt
places_for to t l c Channels = c
places_for to t l c StatusTexts = tt
places_for to t l c Groups = tt
places_for to t l c Individuals = tt
places_for to t l c GroupContacts = tt
places_for to t l c IndividualContacts = tt
places_for to t l c LineSlots = tt

module _ (lim : Limits) (x : Exportable lim) (t : Tables) (ok : Allowed lim t) (p : Part) where
  -- BOUND: no part of allowed tables is longer
  pub exported_length : length (request_bytes (exported p t)) ≤ longest lim p
  exported_length = omega (arith, request_length (exported p t), (exported_readable lim x t ok p).small)

  -- EXPORTED IS: a part's bytes are a request of as many settings, and its settings are what follows
  pub exported_is : RequestOf unicode16 (length (exported p t)) (canonical_all unicode16 (exported p t)) (request_bytes (exported p t))
  exported_is =
      let (some, few) = exported_count lim x t ok p in
      let b : length (request_bytes (exported p t)) ≤ longest lim p = exported_length in
      request_is (exported p t) some few (omega (arith, (longest_fits lim x p).1))

  -- IN SIZE: every set reads so long a message
  pub exported_in_size : InSize lim.message (request_bytes (exported p t))
  exported_in_size =
      let b : length (request_bytes (exported p t)) ≤ longest lim p = exported_length in
      request_in_size lim.message (exported p t) (omega (arith, (longest_fits lim x p).0))

  -- OWN FITS: so every part of a set's tables fits a set of its own kind
  pub own_fits : PartFits lim t p
  own_fits = record {
    request = exported_in_size.1;
    places = places_for lim t ok.lines.0 ok.channels.0 p;
    texts = less_room lim.texts (texts_upto t p) (text_sum t) (sum_most t p) ok.texts;
  }
