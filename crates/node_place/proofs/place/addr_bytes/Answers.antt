use Rattle.std.proofs.Common.{ap, ◌≡◌, ℕ, List, ◌++◌, sym, ◌∙◌}
use Rattle.multiaddr.specs.declared.socket.Ip.{Ip}
use Rattle.multiaddr.specs.declared.socket.Ip.TheVariants.{V4, V6}
use Rattle.multiaddr.specs.Part.{spelling}
use Rattle.multiaddr.specs.Given.{host_part}
use Rattle.node_place.proofs.Bytes.{high_byte, host_put, port_put}
use Rattle.node_place.proofs.place.addr_bytes.Goals as goal
use Rattle.node_place.proofs.place.addr_bytes.Goals.{in-V4+in_ok-push-in-V4+in_ok-extend_from_slice-in-V4, in-V6+in_ok-push-in-V6+in_ok-extend_from_slice-in-V6}

pub returns : goal.returns
returns c =
    let host : c.match-host.bytes.items ≡ spelling (host_part c.args.host) = elim c.match-host.branch [
      | in-V4+in_ok-push-in-V4+in_ok-extend_from_slice-in-V4 w ↦
          ap (λ (bytes : _). bytes.items) w.bytes-is
          ∙ host_put (V4 w.in-V4.octets) c.new-bytes.result.items w.push.new.self.items w.extend_from_slice.new.self.items
          c.new-bytes.ensures.items w.in_ok-push-in-V4.ensures.items w.in_ok-extend_from_slice-in-V4.ensures.items
          ∙ ap (λ (it : Ip). spelling (host_part it)) (sym w.in-V4.is)
      | in-V6+in_ok-push-in-V6+in_ok-extend_from_slice-in-V6 w ↦
          ap (λ (bytes : _). bytes.items) w.bytes-is
          ∙ host_put (V6 w.in-V6.octets) c.new-bytes.result.items w.push-in-V6.new.self.items
          w.extend_from_slice-in-V6.new.self.items c.new-bytes.ensures.items
          w.in_ok-push-in-V6.ensures.items w.in_ok-extend_from_slice-in-V6.ensures.items
          ∙ ap (λ (it : Ip). spelling (host_part it)) (sym w.in-V6.is)
    ] in
    port_put c.args.host c.args.port c.match-host.bytes.items c.push-2.new.self.items c.extend_from_slice-2.new.self.items
    host c.in_ok-push.ensures.items
    (c.in_ok-extend_from_slice.ensures.items ∙ ap (λ (t : List ℕ). c.push-2.new.self.items ++ t) (c.to_be_bytes.ensures ∙ high_byte c.args.port c.ranges.port.fits))
