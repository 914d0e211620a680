-- A datatype that is written.
use Rattle.std.proofs.Common.{◌≡◌, false, List, ℕ, ◌++◌, refl, codes}
use Rattle.std.specs.Str.{bytes_eq}
use Rattle.vocabulary.specs.Words.{iri_of}
use Rattle.vocabulary.specs.declared.word.Word.TheVariants.{XsdString}
use Rattle.triple_list.specs.Listing.{iri_text, datatype_text}

pub is_written : (datatype : List ℕ) → bytes_eq datatype (iri_of XsdString) ≡ false → datatype_text datatype ≡ codes "^^" ++ iri_text datatype
is_written datatype other = rw other refl
