-- The heads of the nine types that have a result. Assumes nothing.
use Rattle.lists.proofs.Kit.{refl, [], ◌∷◌, ◌++◌}
use Rattle.writing.specs.Fields.{val, res}
use Rattle.writing.specs.Settings.{unicode16}
use Rattle.writing.specs.Writing.{flag, text, number, current, to_group}
use Rattle.tables.specs.Layout.{key_address}
use Rattle.reports.specs.declared.Asked.TheVariants.{Groups, Individuals, Lines, Key, QuickTexts, Home, Channels, System, StatusTexts}
use Rattle.report_reading.proofs.HeadLaws.{Headed}

abbrev pub group_head : Headed Groups
group_head = record {
  head = λ x. val 24 x.1.address.0 ∷ val 4 x.0 ∷ val 2 x.1.flags.attribute ∷ flag x.1.flags.broadcast ∷ flag x.1.flags.encryption
      ∷ flag x.1.flags.ovcm ∷ flag x.1.flags.emergency ∷ val 2 x.1.flags.priority ∷ res 4 ∷ [];
  tail = λ x. text unicode16 x.1.text;
  bits = 40;
  size = 6;
  split = λ x. refl;
  wide = λ x. refl;
  whole = refl;
}

abbrev pub individual_head : Headed Individuals
individual_head = record {
  head = λ x. val 24 x.1.address.0 ∷ val 4 x.0 ∷ flag x.1.flags.encryption ∷ flag x.1.flags.emergency ∷ val 2 x.1.flags.priority ∷ [];
  tail = λ x. text unicode16 x.1.text;
  bits = 32;
  size = 5;
  split = λ x. refl;
  wide = λ x. refl;
  whole = refl;
}

abbrev pub line_head : Headed Lines
line_head = record {
  head = λ x. flag x.1.flags.pabx ∷ flag x.1.flags.encryption ∷ flag x.1.flags.emergency ∷ val 2 x.1.flags.priority ∷ res 7
      ∷ val 4 x.0 ∷ [];
  tail = λ x. number x.1.number ++ text unicode16 x.1.text;
  bits = 16;
  size = 3;
  split = λ x. refl;
  wide = λ x. refl;
  whole = refl;
}

abbrev pub key_head : Headed Key
key_head = record {
  head = λ x. flag (to_group x.target) ∷ flag (current x.target) ∷ flag x.flags.voice ∷ flag x.flags.status ∷ flag x.flags.siren ∷ res 3
      ∷ val 24 (key_address x.target) ∷ [];
  tail = λ x. [];
  bits = 32;
  size = 5;
  split = λ x. refl;
  wide = λ x. refl;
  whole = refl;
}

abbrev pub quick_head : Headed QuickTexts
quick_head = record {
  head = λ x. val 6 x.0 ∷ res 2 ∷ [];
  tail = λ x. text unicode16 x.1;
  bits = 8;
  size = 2;
  split = λ x. refl;
  wide = λ x. refl;
  whole = refl;
}

abbrev pub home_head : Headed Home
home_head = record {
  head = λ x. val 9 x.nzi ∷ val 10 x.np ∷ res 5 ∷ [];
  tail = λ x. [];
  bits = 24;
  size = 4;
  split = λ x. refl;
  wide = λ x. refl;
  whole = refl;
}

abbrev pub channel_head : Headed Channels
channel_head = record {
  head = λ x. val 12 x.0 ∷ val 12 x.1 ∷ [];
  tail = λ x. [];
  bits = 24;
  size = 4;
  split = λ x. refl;
  wide = λ x. refl;
  whole = refl;
}

abbrev pub system_head : Headed System
system_head = record {
  head = λ x. val 12 x.lai ∷ val 4 x.la ∷ val 2 x.roaming ∷ flag x.par ∷ res 5 ∷ [];
  tail = λ x. [];
  bits = 24;
  size = 4;
  split = λ x. refl;
  wide = λ x. refl;
  whole = refl;
}

abbrev pub status_head : Headed StatusTexts
status_head = record {
  head = λ x. val 8 x.0 ∷ val 8 x.1 ∷ [];
  tail = λ x. text unicode16 x.2;
  bits = 16;
  size = 3;
  split = λ x. refl;
  wide = λ x. refl;
  whole = refl;
}
