use Rattle.std.proofs.Common.{◌≡◌, ◌++◌, encode_utf8_all}
use Rattle.std.specs.Str.{chars, IsUtf8}
use Rattle.std.specs.Str.Iter.{chars_rest}
use Rattle.std.specs.String.{string_bytes}
use Rattle.turtle_grammar.specs.Value.{unescaped}
use Rattle.turtle_value.specs.Escaping.{IsBegun, left_of}
use Rattle.turtle_value.proofs.unescape.push_unescaped.Given as goal

abbrev pub invariant-loop-c : goal.invariant-loop-c
invariant-loop-c l =
    (goal.iterator-loop-c).can_next l.c-iterator × (goal.iterator-loop-c).is_finite l.c-iterator
    × IsBegun l.escape
    × IsUtf8 (chars_rest l.c-iterator)
    × (string_bytes l.into ++ encode_utf8_all (left_of l.escape (chars (chars_rest l.c-iterator))) ≡ string_bytes l.fn.into ++ encode_utf8_all (unescaped (chars l.fn.text)))
