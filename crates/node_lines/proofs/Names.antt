-- The names of what lines say have no spaces.
use Rattle.std.proofs.Common.{◌≡◌, true, refl}
use Rattle.pool_texts.proofs.Tails.{is_whole}
use Rattle.node_lines.specs.declared.script.Act.{Act}
use Rattle.node_lines.specs.declared.script.Act.TheVariants as act
use Rattle.node_lines.specs.declared.script.Awaited.{Awaited}
use Rattle.node_lines.specs.declared.script.Awaited.TheVariants as awaited
use Rattle.node_lines.specs.declared.trace.TraceLine.{TraceLine}
use Rattle.node_lines.specs.declared.trace.TraceLine.TheVariants as trace
use Rattle.node_lines.specs.Script.{await_name, act_name}
use Rattle.node_lines.specs.Trace.{trace_name}

pub whole_await : (it : Awaited) → is_whole (await_name it) ≡ true
unfolding is_whole
whole_await awaited.None = refl
whole_await it = refl

pub whole_act : (it : Act) → is_whole (act_name it) ≡ true
unfolding is_whole
whole_act act.List = refl
whole_act it = refl

pub whole_trace : (it : TraceLine) → is_whole (trace_name it) ≡ true
unfolding is_whole
whole_trace trace.Out = refl
whole_trace it = refl
