use Rattle.std.proofs.Common.{◌≡◌, ◌++◌, length, take}
use Rattle.std.specs.Prelude.{All, flat_map}
use Rattle.plugin_list.specs.Listing.{count_line}
use Rattle.plugin_list.specs.Plugins.{plugins_of}
use Rattle.host_main.specs.Listing.{declared_lines, IsDeclared}
use Rattle.host_main.proofs.checking.plugins.push_plugins.Given as goal

-- the plug-ins so far break no rule, and their lines stand after the number of all
abbrev pub invariant-loop-uri : goal.invariant-loop-uri
invariant-loop-uri l = record {
  same : l.uri-items ≡ plugins_of l.store;
  declared : All (IsDeclared l.store) (take l.uri-index l.uri-items);
  lines : l.into ≡ l.fn.into ++ (count_line (length l.uri-items) ++ flat_map (declared_lines l.store) (take l.uri-index l.uri-items));
}
