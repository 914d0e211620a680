use Rattle.std.proofs.Common.{◌≡◌, ◌++◌, take}
use Rattle.std.specs.List.{flat_map}
use Rattle.plugin_list.specs.Listing.{plugin_line, port_line}
use Rattle.plugin_list.proofs.listing.push_plugin.Given as goal

-- the line of the plug-in, and those of the ports so far
abbrev pub invariant-loop-port : goal.invariant-loop-port
invariant-loop-port l = l.into ≡ l.fn.into ++ (plugin_line l.plugin ++ flat_map port_line (take l.port-index l.plugin.ports))
