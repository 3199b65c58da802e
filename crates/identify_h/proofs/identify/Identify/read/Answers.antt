use Rattle.identify_h.proofs.Messages.{only_message, only_wire, only_key, only_bad_key}
use Rattle.identify_h.proofs.identify.Identify.read.Goals as goal

pub returns-clause-only_message : goal.returns-clause-only_message
returns-clause-only_message c = only_message c.args.peer c.args.bytes.now c.read_in.result c.read_in.ensures.found c.read_in.ensures.fault

pub returns-clause-only_wire : goal.returns-clause-only_wire
returns-clause-only_wire c = only_wire c.args.peer c.args.bytes.now c.read_in.result c.read_in.ensures.found c.read_in.ensures.fault

pub returns-clause-only_key : goal.returns-clause-only_key
returns-clause-only_key c = only_key c.args.peer c.args.bytes.now c.read_in.result c.read_in.ensures.found c.read_in.ensures.fault

pub returns-clause-only_bad_key : goal.returns-clause-only_bad_key
returns-clause-only_bad_key c = only_bad_key c.args.peer c.args.bytes.now c.read_in.result c.read_in.ensures.found c.read_in.ensures.fault
