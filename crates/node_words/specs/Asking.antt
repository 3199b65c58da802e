-- What the subcommands ask for.
-- Source: this project's profile, the subcommands of `node`.
use Rattle.std.specs.Prelude.{◌≡◌, ℕ, List, codes, Some, ⊤}
use Rattle.clap.specs.Matches.{found_of, first_value}
use Rattle.clap.specs.declared.parser.matches.ArgMatches.{ArgMatches}
use Rattle.node_words.specs.Words.{word_or, words_in, HasNumber, HasFlag, HasLimits, role_name, AreNamed, IsKey}
use Rattle.node_words.specs.Words.{IsPayload, zero_key, zeros, listener_key, dialer_key, any_port, agent_name}
use Rattle.pool_state.specs.AgentName.{IsAgentName}
use Rattle.pool_texts.specs.Lines.{IsPeer}
use Rattle.node_terms.specs.declared.errand.Errand.{Errand}
use Rattle.node_terms.specs.declared.errand.Errand.TheVariants.{Ping, Identify}
use Rattle.node_words.specs.declared.command.Asked.{Asked}
use Rattle.node_words.specs.declared.command.Asked.TheVariants as asked

-- What a peer is dialed for, by the name of its subcommand.
abbrev pub errand_name : Errand → List ℕ
errand_name (Ping count) = codes "ping"
errand_name Identify = codes "identify"

-- The name of the subcommand that asks for it.
abbrev pub subcommand_of : Asked → List ℕ
subcommand_of (asked.Id hex) = codes "id"
subcommand_of (asked.Hash text) = codes "hash"
subcommand_of (asked.Addr text) = codes "addr"
subcommand_of (asked.Replay config) = codes "replay"
subcommand_of (asked.Trace traced) = codes "trace"
subcommand_of asked.Run = codes "run"
subcommand_of (asked.Listen listener) = codes "listen"
subcommand_of (asked.Dial dialer) = errand_name dialer.errand

-- How many pings, where it is a ping.
abbrev pub Counts : ArgMatches → Errand → Type 0
Counts found (Ping count) = HasNumber 32 found (codes "count") count
Counts found Identify = ⊤

-- What is asked for is that of the words that were found.
abbrev pub Asks : ArgMatches → Asked → Type 0
Asks found (asked.Id hex) = first_value (found_of found) (codes "HEX") ≡ Some hex.now
Asks found (asked.Hash text) = first_value (found_of found) (codes "TEXT") ≡ Some text.now
Asks found (asked.Addr text) = first_value (found_of found) (codes "TEXT") ≡ Some text.now
Asks found (asked.Replay config) = IsPeer (word_or (codes "") found (codes "own")) config.own
    × HasLimits found config.limits × HasNumber 32 found (codes "first-conn") config.first_conn
    × HasNumber 64 found (codes "first-front") config.first_front
    × HasFlag found (codes "allow-only") config.allow_only
Asks found (asked.Trace traced) = (word_or (codes "") found (codes "ROLE") ≡ role_name traced.role)
    × IsKey (word_or zero_key found (codes "key")) traced.key
    × IsPayload (word_or zeros found (codes "payload")) traced.payload
Asks found asked.Run = ⊤
Asks found (asked.Listen listener) = (listener.addr.now ≡ word_or any_port found (codes "ADDR"))
    × IsKey (word_or listener_key found (codes "key")) listener.key
    × (listener.agent.now ≡ word_or agent_name found (codes "agent")) × IsAgentName listener.agent.now
    × HasLimits found listener.limits
    × HasFlag found (codes "allow-only") listener.allow_only
    × AreNamed (words_in found (codes "block")) listener.blocked.items
    × AreNamed (words_in found (codes "allow")) listener.allowed.items
Asks found (asked.Dial dialer) = (dialer.addr.now ≡ word_or (codes "") found (codes "ADDR"))
    × IsKey (word_or dialer_key found (codes "key")) dialer.key × Counts found dialer.errand
