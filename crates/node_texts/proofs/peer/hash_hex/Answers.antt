use Rattle.std.proofs.Common.{◌≡◌, Ok, Err, subst}
use Rattle.peer_ids.specs.declared.fault.IdFault.{IdFault}
use Rattle.peer_ids.specs.ReadsText.{ReadsId}
use Rattle.node_texts.proofs.peer.hash_hex.Goals as goal

pub returns-in-Err-clause-refused : goal.returns-in-Err-clause-refused
returns-in-Err-clause-refused c = λ fault. (
  λ e. let same : c.in-Err.fault ≡ fault = cc in subst (λ (f : IdFault). ReadsId c.args.text.now (Err f)) same c.in-Err.ensures.reads,
  λ h. let same : Err c.in-Err.fault ≡ Err fault = c.in-Err.ensures.only (Err fault) h in cc,
)

pub returns-in-Ok-encode-clause-refused : goal.returns-in-Ok-encode-clause-refused
returns-in-Ok-encode-clause-refused c = λ fault. (λ e. absurd cc, λ h. let same : Ok c.in-Ok.id ≡ Err fault = c.in-Ok.ensures.only (Err fault) h in absurd cc)

pub returns-in-Err-encode-clause-refused : goal.returns-in-Err-encode-clause-refused
returns-in-Err-encode-clause-refused c = λ fault. (λ e. absurd cc, λ h. let same : Ok c.in-Ok.id ≡ Err fault = c.in-Ok.ensures.only (Err fault) h in absurd cc)
