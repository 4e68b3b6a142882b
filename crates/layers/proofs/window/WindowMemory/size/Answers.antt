use Rattle.std.proofs.Common.{rules}
use Rattle.layers.specs.Window.{length-window_of}
use Rattle.layers.proofs.window.WindowMemory.size.Goals as goal

pub returns : goal.returns
returns g c = search (rules, length-window_of)
