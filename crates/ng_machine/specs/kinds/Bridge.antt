-- ng_bridge(4): a frame goes out of the link that its destination is behind, and out of all others where that isn't known. A
-- frame changes nothing but counters, among them how often a host was seen; where its source is news, the bridge is to
-- learn it by an item of its own. The order of the tests, mutes, ages and what a loop does are this project's choice.
use Rattle.std.specs.Prelude.{ℕ, ◌+◌, ◌-◌, ◌^◌, min, Bool, true, false, not, ◌==◌, ◌&&◌, nat_lt, if◌then◌else◌, List, [], ◌∷◌, ◌++◌, map, length, take, replicate, codes, is_none, unwrap_or, Option, Some, None}
use Rattle.std.specs.List.{filter, find, flat_map, list_any}
use Rattle.std.specs.Str.{bytes_eq}
use Rattle.byteorder.specs.Endian.{little_bytes, big_number}
use Rattle.ng_message.specs.Fields.{name_field}
use Rattle.ng_machine.specs.declared.body.Door.{Door}
use Rattle.ng_machine.specs.declared.body.Door.TheVariants.{Wire, Hook}
use Rattle.ng_machine.specs.declared.outcome.Outcome.{Outcome}
use Rattle.ng_machine.specs.declared.plan.BridgeConfig.{BridgeConfig}
use Rattle.ng_machine.specs.declared.plan.BridgeLink.{BridgeLink}
use Rattle.ng_machine.specs.declared.plan.BridgeHost.{BridgeHost}
use Rattle.ng_machine.specs.Errors.{enotconn}
use Rattle.ng_machine.specs.Names.{digits, number_behind}
use Rattle.ng_machine.specs.Arguments.{number_at}
use Rattle.ng_machine.specs.Counters.{Count, zeros, raise, raise_at, row_bytes, counts_packet}
use Rattle.ng_machine.specs.kinds.Macset.{is_group, source_of}
use Rattle.ng_machine.specs.Outcome.{nothing, counts_only, Reply, refuses, invalid, sets, answers, with_length, by_number}

-- State

-- a link: its number, for how many seconds more it is mute, and its counters; all begin and end with its hook
pub record Link : Type 0 where
  pub number : ℕ
  pub mute : ℕ
  pub counters : List ℕ

-- a host: its address, its link, for how long it has been there, for how long it wasn't seen, and how often it was seen
-- since time went by
pub record Host : Type 0 where
  pub addr : List ℕ
  pub link : ℕ
  pub age : ℕ
  pub staleness : ℕ
  pub seen : ℕ

-- links are in order of numbers, and hosts in order of addresses
pub record Bridge : Type 0 where
  pub config : BridgeConfig
  pub persistent : Bool
  pub links : List Link
  pub hosts : List Host

abbrev pub blank_bridge : Bridge
blank_bridge = record {
  config = record { debug_level = 1; loop_timeout = 60; max_staleness = 900; min_stable_age = 1 };
  persistent = false;
  links = [];
  hosts = [];
}

abbrev pub most_links : ℕ
most_links = 32

abbrev pub most_hosts : ℕ
most_hosts = 4096

abbrev pub link_hook : ℕ → List ℕ
link_hook number = codes "link" ++ digits number

abbrev pub link_number : List ℕ → ℕ
link_number hook = unwrap_or (number_behind (codes "link") most_links hook) most_links

abbrev pub new_link : ℕ → Link
new_link number = record { number = number; mute = 0; counters = zeros 14 }

abbrev pub put_link : Link → List Link → List Link
put_link l [] = l ∷ []
put_link l (m ∷ links) = if nat_lt l.number m.number then l ∷ m ∷ links else m ∷ put_link l links

abbrev pub bridge_with_hook : Bridge → List ℕ → Bridge
bridge_with_hook s hook = record s { links = put_link (new_link (link_number hook)) s.links }

abbrev pub has_number : ℕ → Link → Bool
has_number number l = l.number == number

abbrev pub is_behind : ℕ → Host → Bool
is_behind number h = h.link == number

-- the hosts that aren't behind a link
abbrev pub elsewhere : ℕ → List Host → List Host
elsewhere number hosts = filter (λ h. not (is_behind number h)) hosts

abbrev pub bridge_without_hook : Bridge → List ℕ → Bridge
bridge_without_hook s hook = record s { links = filter (λ l. not (has_number (link_number hook) l)) s.links; hosts = elsewhere (link_number hook) s.hosts }

-- the links with something done to one of them
abbrev pub at_link : ℕ → (Link → Link) → List Link → List Link
at_link number change links = map (λ l. if has_number number l then change l else l) links

-- what a plan holds of links and hosts
abbrev pub link_way : Link → BridgeLink
link_way l = record { hook = link_hook l.number; mute = l.mute }

abbrev pub host_way : Host → BridgeHost
host_way h = record { addr = h.addr; link = h.link; age = h.age }

-- Counters of a link, in the order of the statistics

abbrev pub recv_octets : ℕ
recv_octets = 0

abbrev pub recv_packets : ℕ
recv_packets = 1

abbrev pub recv_multicasts : ℕ
recv_multicasts = 2

abbrev pub recv_broadcasts : ℕ
recv_broadcasts = 3

abbrev pub recv_unknown : ℕ
recv_unknown = 4

abbrev pub recv_runts : ℕ
recv_runts = 5

abbrev pub recv_invalid : ℕ
recv_invalid = 6

abbrev pub xmit_octets : ℕ
xmit_octets = 7

abbrev pub xmit_packets : ℕ
xmit_packets = 8

abbrev pub xmit_multicasts : ℕ
xmit_multicasts = 9

abbrev pub xmit_broadcasts : ℕ
xmit_broadcasts = 10

abbrev pub loop_drops : ℕ
loop_drops = 11

abbrev pub loop_detects : ℕ
loop_detects = 12

-- the number under which a host is counted as seen
abbrev pub seen_number : List ℕ → ℕ
seen_number addr = 2 ^ 48 + big_number 6 addr

abbrev pub one_more : List ℕ → ℕ → List Count
one_more hook number = (hook, number, 1) ∷ []

-- Frames

abbrev pub destination_of : List ℕ → List ℕ
destination_of frame = take 6 frame

abbrev pub is_broadcast : List ℕ → Bool
is_broadcast addr = bytes_eq addr (replicate 6 0xff)

-- a frame to a group of stations is counted as a broadcast or a multicast
abbrev pub counts_group : List ℕ → ℕ → ℕ → List ℕ → List Count
counts_group hook broadcasts multicasts addr =
    if is_broadcast addr then one_more hook broadcasts
    else if is_group addr then one_more hook multicasts
    else []

abbrev pub host_of : List ℕ → List BridgeHost → Option BridgeHost
host_of addr hosts = find (λ h. bytes_eq h.addr addr) hosts

abbrev pub is_link_of : List ℕ → BridgeLink → Bool
is_link_of hook l = bytes_eq l.hook hook

abbrev pub mute_of : List BridgeLink → List ℕ → ℕ
mute_of [] hook = 0
mute_of (l ∷ links) hook = if is_link_of hook l then l.mute else mute_of links hook

-- how the source of a frame stands: known on its link; known on another, too short a time ago for it to move; news to learn;
-- or unknown where no further host is learned
pub data Standing : Type 0 where
  Known Looped News Crowded : Standing

abbrev pub standing_of : BridgeConfig → ℕ → ℕ → Option BridgeHost → Standing
standing_of config count number None = if nat_lt count most_hosts then News else Crowded
standing_of config count number (Some h) =
    if h.link == number then Known
    else if nat_lt h.age config.min_stable_age then Looped
    else News

abbrev pub standing : BridgeConfig → List BridgeHost → ℕ → List ℕ → Standing
standing config hosts number addr = standing_of config (length hosts) number (host_of addr hosts)

-- Where a frame goes

abbrev pub others : List BridgeLink → List ℕ → List (List ℕ)
others links hook = filter (λ other. not (bytes_eq other hook)) (map (λ l. l.hook) links)

-- to the link of a known host, where that isn't the link of arrival
abbrev pub toward : List BridgeLink → ℕ → ℕ → List (List ℕ)
toward links number link =
    if link == number then []
    else if list_any (is_link_of (link_hook link)) links then link_hook link ∷ []
    else []

abbrev pub to_host : List BridgeLink → List ℕ → Option BridgeHost → List (List ℕ)
to_host links hook None = others links hook
to_host links hook (Some h) = toward links (link_number hook) h.link

abbrev pub to_itself : List ℕ → Bool
to_itself frame = bytes_eq (destination_of frame) (source_of frame)

abbrev pub targets : List BridgeLink → List BridgeHost → List ℕ → List ℕ → List (List ℕ)
targets links hosts hook frame =
    if is_group (destination_of frame) then others links hook
    else if to_itself frame then []
    else to_host links hook (host_of (destination_of frame) hosts)

-- a frame to one station that no host is
abbrev pub is_unknown : List BridgeHost → List ℕ → Bool
is_unknown hosts frame = not (is_group (destination_of frame)) && (not (to_itself frame) && is_none (host_of (destination_of frame) hosts))

abbrev pub counts_unknown : Bool → List ℕ → List Count
counts_unknown true hook = one_more hook recv_unknown
counts_unknown false hook = []

abbrev pub counts_sent : List ℕ → List ℕ → List Count
counts_sent frame hook = counts_packet xmit_packets xmit_octets hook (length frame) ++ counts_group hook xmit_broadcasts xmit_multicasts (destination_of frame)

abbrev pub floods : List (List ℕ) → List ℕ → List Count → Option (List ℕ) → Outcome
floods out frame counts learn = record nothing {
  sends = map (λ hook. (hook, frame)) out;
  counts = counts ++ flat_map (counts_sent frame) out;
  learn = learn;
}

abbrev pub forwards : List BridgeLink → List BridgeHost → List ℕ → List ℕ → List Count → Option (List ℕ) → Outcome
forwards links hosts hook frame counts learn = floods (targets links hosts hook frame) frame (counts ++ counts_unknown (is_unknown hosts frame) hook) learn

-- a good frame, on a link that isn't mute
abbrev pub meets : Standing → List BridgeLink → List BridgeHost → List ℕ → List ℕ → List Count → Outcome
meets Known links hosts hook frame counts = forwards links hosts hook frame (counts ++ one_more hook (seen_number (source_of frame))) None
meets Looped links hosts hook frame counts = record nothing { counts = counts ++ one_more hook loop_drops; learn = Some (source_of frame) }
meets News links hosts hook frame counts = forwards links hosts hook frame counts (Some (source_of frame))
meets Crowded links hosts hook frame counts = forwards links hosts hook frame counts None

abbrev pub arrival_counts : List ℕ → List ℕ → List Count
arrival_counts hook frame = counts_packet recv_packets recv_octets hook (length frame)

abbrev pub hears : BridgeConfig → List BridgeLink → List BridgeHost → List ℕ → List ℕ → Outcome
hears config links hosts hook frame =
    if nat_lt (length frame) 14 then counts_only (arrival_counts hook frame ++ one_more hook recv_runts)
    else if is_group (source_of frame) then counts_only (arrival_counts hook frame ++ one_more hook recv_invalid)
    else if nat_lt 0 (mute_of links hook) then counts_only (arrival_counts hook frame ++ one_more hook loop_drops)
    else meets (standing config hosts (link_number hook) (source_of frame)) links hosts hook frame
    (arrival_counts hook frame ++ counts_group hook recv_broadcasts recv_multicasts (destination_of frame))

abbrev pub bridges : BridgeConfig → List BridgeLink → List BridgeHost → Door → List ℕ → Outcome
bridges config links hosts (Hook hook) frame = hears config links hosts hook frame
bridges config links hosts Wire frame = nothing

-- what is counted: below the number of counters a link's, and else a host as seen
abbrev pub see_host : ℕ → ℕ → Host → Host
see_host number amount h = if seen_number h.addr == number then record h { seen = raise h.seen amount } else h

abbrev pub count_bridge_if : Bool → Bridge → Count → Bridge
count_bridge_if true s c = record s { links = at_link (link_number c.0) (λ l. record l { counters = raise_at l.counters c.1 c.2 }) s.links }
count_bridge_if false s c = record s { hosts = map (see_host c.1 c.2) s.hosts }

abbrev pub count_bridge : Bridge → Count → Bridge
count_bridge s c = count_bridge_if (nat_lt c.1 14) s c

-- Learning

-- a host as it is learned, and the hosts with it in its place
abbrev pub new_host : List ℕ → ℕ → Host
new_host addr number = record { addr = addr; link = number; age = 0; staleness = 0; seen = 0 }

abbrev pub put_host : Host → List Host → List Host
put_host x [] = x ∷ []
put_host x (h ∷ hosts) =
    if bytes_eq h.addr x.addr then x ∷ hosts
    else if nat_lt (big_number 6 x.addr) (big_number 6 h.addr) then x ∷ h ∷ hosts
    else h ∷ put_host x hosts

abbrev pub loops : Bridge → ℕ → Bridge
loops s number = record s {
  links = at_link number (λ l. record l { mute = s.config.loop_timeout; counters = raise_at l.counters loop_detects 1 }) s.links;
  hosts = elsewhere number s.hosts;
}

abbrev pub learn_by_standing : Standing → Bridge → ℕ → List ℕ → Bridge
learn_by_standing Known s number addr = record s { hosts = map (see_host (seen_number addr) 1) s.hosts }
learn_by_standing Looped s number addr = loops s number
learn_by_standing News s number addr = record s { hosts = put_host (new_host addr number) s.hosts }
learn_by_standing Crowded s number addr = s

-- the host of this address is behind the link of this hook; a mute link teaches nothing
abbrev pub bridge_learn : Bridge → List ℕ → List ℕ → Bridge
bridge_learn s hook addr =
    if nat_lt 0 (mute_of (map link_way s.links) hook) then s
    else learn_by_standing (standing s.config (map host_way s.hosts) (link_number hook) addr) s (link_number hook) addr

-- Time

abbrev pub rest_host : Host → Host
rest_host h = if nat_lt 0 h.seen then record h { staleness = 0; seen = 0 } else h

abbrev pub age_host : ℕ → Host → Host
age_host seconds h = record h { age = min (h.age + seconds) 65535; staleness = min (h.staleness + seconds) 65535 }

abbrev pub calm_link : ℕ → Link → Link
calm_link seconds l = record l { mute = l.mute - seconds }

abbrev pub bridge_tick : Bridge → ℕ → Bridge
bridge_tick s seconds = record s {
  links = map (calm_link seconds) s.links;
  hosts = filter (λ h. nat_lt h.staleness s.config.max_staleness) (map (λ h. age_host seconds (rest_host h)) s.hosts);
}

-- Messages

-- { debugLevel loopTimeout maxStaleness minStableAge }: 1 byte, 3 of padding, and 4 bytes each
abbrev pub bridge_config_in : List ℕ → BridgeConfig
bridge_config_in args = record {
  debug_level = number_at 1 args 0;
  loop_timeout = number_at 4 args 4;
  max_staleness = number_at 4 args 8;
  min_stable_age = number_at 4 args 12;
}

abbrev pub bridge_config_bytes : BridgeConfig → List ℕ
bridge_config_bytes config =
    config.debug_level ∷ 0 ∷ 0 ∷ 0 ∷ (little_bytes 4 config.loop_timeout ++ little_bytes 4 config.max_staleness ++ little_bytes 4 config.min_stable_age)

-- hosts, mutes and counters are forgotten
abbrev pub bridge_reset : Bridge → Bridge
bridge_reset s = record s { links = map (λ l. new_link l.number) s.links; hosts = [] }

-- the reply by a link: one that isn't a link's number is invalid, and one whose hook isn't there isn't connected
abbrev pub by_link_found : Bridge → Option Link → (Link → Reply Bridge) → Reply Bridge
by_link_found s None reply = refuses s enotconn
by_link_found s (Some l) reply = reply l

abbrev pub by_link_number : Bridge → ℕ → (Link → Reply Bridge) → Reply Bridge
by_link_number s number reply = if nat_lt number most_links then by_link_found s (find (has_number number) s.links) reply else invalid s

abbrev pub by_link : Bridge → List ℕ → (Link → Reply Bridge) → Reply Bridge
by_link s args reply = with_length s 4 args (by_link_number s (number_at 4 args 0) reply)

abbrev pub bridge_clear : Bridge → Link → Bridge
bridge_clear s l = record s { links = at_link l.number (λ m. record m { counters = zeros 14 }) s.links }

-- { addr hook age staleness }: 6, 32, 2 and 2 bytes; a host that was seen since time went by isn't stale
abbrev pub host_bytes : Host → List ℕ
host_bytes h =
    h.addr ++ name_field (link_hook h.link) ++ little_bytes 2 h.age ++ little_bytes 2 (if nat_lt 0 h.seen then 0 else h.staleness)

abbrev pub hosts_bytes : List Host → List ℕ
hosts_bytes hosts = little_bytes 4 (length hosts) ++ flat_map host_bytes hosts

-- setconfig 1, getconfig 2, reset 3, getstats 4, clrstats 5, getclrstats 6, gettable 7 and setpersistent 8
-- (NGM_BRIDGE_SET_CONFIG and so on)
abbrev pub bridge_messages : Bridge → List ℕ → List (ℕ × Reply Bridge)
bridge_messages s args =
    (1, with_length s 16 args (sets (record s { config = bridge_config_in args })))
    ∷ (0x30000002, with_length s 0 args (answers s (bridge_config_bytes s.config)))
    ∷ (3, with_length s 0 args (sets (bridge_reset s)))
    ∷ (0x20000004, by_link s args (λ l. answers s (row_bytes l.counters)))
    ∷ (5, by_link s args (λ l. sets (bridge_clear s l)))
    ∷ (0x20000006, by_link s args (λ l. answers (bridge_clear s l) (row_bytes l.counters)))
    ∷ (0x20000007, with_length s 0 args (answers s (hosts_bytes s.hosts)))
    ∷ (8, with_length s 0 args (sets (record s { persistent = true })))
    ∷ []

abbrev pub bridge_message : Bridge → ℕ → List ℕ → Reply Bridge
bridge_message s number args = by_number s number (bridge_messages s args)
