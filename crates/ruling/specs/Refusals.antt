-- What a refusal tells: its number, the layer that found it, and the place.
use Rattle.ruling.specs.declared.refusal.Refusal.{Refusal}
use Rattle.ruling.specs.declared.refusal.Refusal.TheVariants.{KindCount, RankAbove, NoLeafKind, TableHead, TableDirectory, TableByte, KindsDiffer, RecordLength, NoKind, TooFewParts, SeveralParts, TooManyStates, BufferTooShort, PairTooLarge}
use Rattle.ruling.specs.declared.layer.Layer.TheVariants.{Kinds, Table, Ruling, Record, Book, Buffer}
use Rattle.ruling.specs.declared.refusal.Notice.{Notice}

abbrev pub told : Refusal → Notice
told (KindCount length) = record { number = 1; layer = Kinds; place = length }
told (RankAbove kind) = record { number = 2; layer = Kinds; place = kind }
told NoLeafKind = record { number = 3; layer = Kinds; place = 0 }
told (TableHead at) = record { number = 4; layer = Table; place = at }
told (TableDirectory at) = record { number = 5; layer = Table; place = at }
told (TableByte at) = record { number = 6; layer = Table; place = at }
told (KindsDiffer kind) = record { number = 7; layer = Ruling; place = kind }
told (RecordLength bound) = record { number = 8; layer = Record; place = bound }
told (NoKind at) = record { number = 9; layer = Record; place = at }
told (TooFewParts at) = record { number = 10; layer = Record; place = at }
told (SeveralParts length) = record { number = 11; layer = Record; place = length }
told (TooManyStates need) = record { number = 12; layer = Book; place = need }
told (BufferTooShort need) = record { number = 13; layer = Buffer; place = need }
told (PairTooLarge states) = record { number = 14; layer = Ruling; place = states }
