-- The names of the layers.
use Rattle.std.specs.Prelude.{ℕ, List, codes}
use Rattle.ruling.specs.declared.layer.Layer.{Layer}
use Rattle.ruling.specs.declared.layer.Layer.TheVariants.{Kinds, Table, Ruling, Record, Book, Buffer}

-- The name of a layer.
abbrev pub layer_text : Layer → List ℕ
layer_text Kinds = codes "kinds"
layer_text Table = codes "table"
layer_text Ruling = codes "ruling"
layer_text Record = codes "record"
layer_text Book = codes "book"
layer_text Buffer = codes "buffer"
