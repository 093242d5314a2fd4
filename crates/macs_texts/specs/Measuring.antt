-- The counters of an endpoint and of its wires for a metrics collector: the Prometheus text format, version 0.0.4.
use Rattle.std.specs.Prelude.{ℕ, ◌-◌, ◌^◌, List, [], ◌++◌, length, flat_map, codes, string_bytes, Option, Some, None}
use Rattle.std.specs.Fmt.{decimal}
use Rattle.std.specs.Option.{option_map}
use Rattle.hex.specs.Hex.{encode_lower}
use Rattle.macs_config.specs.Config.{Config, max_spent}
use Rattle.macs_txsc.specs.Transmit.{fault_count}
use Rattle.macs_txsc.specs.declared.counters.TxCounters.{TxCounters}
use Rattle.macs_txsc.specs.declared.fault.TxFault.{TxFault}
use Rattle.macs_rxsc.specs.Counting.{channel_count_of, count_of}
use Rattle.macs_rxsc.specs.declared.counters.ChannelCounters.{ChannelCounters}
use Rattle.macs_rxsc.specs.declared.counters.RxCounters.{RxCounters}
use Rattle.macs_rxsc.specs.declared.verdict.Verdict.{Verdict}
use Rattle.macs_endpoint.specs.Reserved.{Reserved}
use Rattle.macs_endpoint.specs.State.{State}
use Rattle.macs_texts.specs.declared.build.Build.{Build}
use Rattle.macs_texts.specs.declared.wire_report.WireNumber.{WireNumber}
use Rattle.macs_texts.specs.declared.wire_report.WireNumber.TheVariants as wire
use Rattle.macs_texts.specs.declared.wire_report.WireReport.{WireReport}
use Rattle.macs_texts.specs.Counting.{channel_verdicts, fault_words, rx_verdicts, tx_faults, verdict_words, wire_number}
use Rattle.macs_texts.specs.Counting.{wire_numbers}
use Rattle.macs_texts.specs.Lines.{line}
use Rattle.macs_texts.specs.Showing.{association_numbers}

-- ---- lines

-- a sample of a metric, with these labels and one more
abbrev pub sample : List ℕ → List ℕ → List ℕ → List ℕ → ℕ → List ℕ
sample name labels label value number = line (name ++ (codes "{" ++ (labels ++ (codes "," ++ (label
    ++ (codes "=\"" ++ (value ++ (codes "\"} " ++ decimal number))))))))

-- the same for a number that may be absent
abbrev pub sample_of : List ℕ → List ℕ → List ℕ → List ℕ → Option ℕ → List ℕ
sample_of name labels label value None = []
sample_of name labels label value (Some number) = sample name labels label value number

-- the description of a metric
abbrev pub help_line : List ℕ → List ℕ → List ℕ
help_line name help = line (codes "# HELP " ++ (name ++ (codes " " ++ help)))

-- its type
abbrev pub type_line : List ℕ → List ℕ → List ℕ
type_line name kind = line (codes "# TYPE " ++ (name ++ (codes " " ++ kind)))

-- both: the lines before its samples
abbrev pub metric_head : List ℕ → List ℕ → List ℕ → List ℕ
metric_head name kind help = help_line name help ++ type_line name kind

-- the label that all samples of an endpoint with this SCI have
abbrev pub own_label : List ℕ → List ℕ
own_label sci = codes "sci=\"" ++ (encode_lower sci ++ codes "\"")

-- ---- frames

-- plain frames, by outcome
abbrev pub tx_name : List ℕ
tx_name = codes "macsec_tx_frames_total"

-- how many met a fault
abbrev pub tx_sample : List ℕ → TxCounters → TxFault → List ℕ
tx_sample own c fault = sample tx_name own (codes "answer") (fault_words fault) (fault_count fault c)

-- how many were protected, and how many met each fault
abbrev pub tx_metric : List ℕ → TxCounters → List ℕ
tx_metric own c = metric_head tx_name (codes "counter") (codes "Plain frames by what was answered.")
    ++ (sample tx_name own (codes "answer") (codes "protected") c.protected ++ flat_map (tx_sample own c) tx_faults)

-- received frames, by verdict
abbrev pub rx_name : List ℕ
rx_name = codes "macsec_rx_frames_total"

-- how often this verdict was given
abbrev pub rx_sample : List ℕ → RxCounters → Verdict → List ℕ
rx_sample own c verdict = sample rx_name own (codes "verdict") (verdict_words verdict) (count_of verdict c)

-- how often each was given
abbrev pub rx_metric : List ℕ → RxCounters → List ℕ
rx_metric own c = metric_head rx_name (codes "counter") (codes "Received frames by verdict.")
    ++ flat_map (rx_sample own c) rx_verdicts

-- received frames of a channel, by verdict
abbrev pub channel_name : List ℕ
channel_name = codes "macsec_rx_channel_frames_total"

-- the labels of a channel
abbrev pub channel_labels : List ℕ → List ℕ → List ℕ
channel_labels own sci = own ++ (codes ",channel=\"" ++ (encode_lower sci ++ codes "\""))

-- how often this verdict was given on frames of a channel, if the channel exists
abbrev pub channel_sample : List ℕ → (List ℕ → Option ChannelCounters) → List ℕ → Verdict → List ℕ
channel_sample own table sci verdict =
    sample_of channel_name (channel_labels own sci) (codes "verdict") (verdict_words verdict)
    (option_map (channel_count_of verdict) (table sci))

-- how often each verdict was given
abbrev pub channel_samples : List ℕ → (List ℕ → Option ChannelCounters) → List ℕ → List ℕ
channel_samples own table sci = flat_map (channel_sample own table sci) channel_verdicts

-- the samples of all channels
abbrev pub channel_metric : List ℕ → State → (List ℕ → Option ChannelCounters) → List ℕ
channel_metric own s table =
    metric_head channel_name (codes "counter") (codes "Received frames of a channel by verdict.")
    ++ flat_map (channel_samples own table) s.config.channels

-- ---- wires

-- the metric of a number of a wire
abbrev pub wire_metric_name : WireNumber → List ℕ
wire_metric_name wire.Taken = codes "macsec_wire_taken_total"
wire_metric_name wire.TooLong = codes "macsec_wire_too_long_total"
wire_metric_name wire.Sent = codes "macsec_wire_sent_total"
wire_metric_name wire.Strangers = codes "macsec_wire_strangers_total"
wire_metric_name wire.FailedReceives = codes "macsec_wire_failed_receives_total"
wire_metric_name wire.FailedSends = codes "macsec_wire_failed_sends_total"
wire_metric_name wire.Buffer = codes "macsec_wire_buffer_octets"
wire_metric_name wire.Overrun = codes "macsec_wire_overrun_total"

-- its type
abbrev pub wire_kind : WireNumber → List ℕ
wire_kind wire.Taken = codes "counter"
wire_kind wire.TooLong = codes "counter"
wire_kind wire.Sent = codes "counter"
wire_kind wire.Strangers = codes "counter"
wire_kind wire.FailedReceives = codes "counter"
wire_kind wire.FailedSends = codes "counter"
wire_kind wire.Buffer = codes "gauge"
wire_kind wire.Overrun = codes "counter"

-- its description
abbrev pub wire_help : WireNumber → List ℕ
wire_help wire.Taken = codes "Frames taken off a wire."
wire_help wire.TooLong = codes "Frames taken off a wire that were too long, and dropped."
wire_help wire.Sent = codes "Frames sent on a wire."
wire_help wire.Strangers = codes "Datagrams of another address than the peer's."
wire_help wire.FailedReceives = codes "Receives that failed."
wire_help wire.FailedSends = codes "Sends that failed."
wire_help wire.Buffer = codes "Octets of waiting datagrams that the system keeps for a wire."
wire_help wire.Overrun = codes "Datagrams that the system dropped, since a wire had no room for them."

-- a number of each wire, if it is known: the controlled one is the first
abbrev pub wire_metric : List ℕ → WireReport → WireReport → WireNumber → List ℕ
wire_metric own controlled common number =
    metric_head (wire_metric_name number) (wire_kind number) (wire_help number)
    ++ (sample_of (wire_metric_name number) own (codes "wire") (codes "1") (wire_number controlled number)
    ++ sample_of (wire_metric_name number) own (codes "wire") (codes "2") (wire_number common number))

-- all of them
abbrev pub wires_metrics : List ℕ → WireReport → WireReport → List ℕ
wires_metrics own controlled common = flat_map (wire_metric own controlled common) wire_numbers

-- ---- what is left

-- packet numbers left under a transmit association
abbrev pub left_name : List ℕ
left_name = codes "macsec_tx_numbers_left"

-- how many there are, if the association exists
abbrev pub left_sample : List ℕ → State → ℕ → List ℕ
left_sample own s an =
    sample_of left_name own (codes "an") (decimal an) (option_map (λ next. 2 ^ 32 - next) (s.next an))

-- how many there are under each
abbrev pub left_metric : List ℕ → State → List ℕ
left_metric own s = metric_head left_name (codes "gauge") (codes "Packet numbers left under a transmit key.")
    ++ flat_map (left_sample own s) association_numbers

-- keys that may still be installed
abbrev pub keys_name : List ℕ
keys_name = codes "macsec_keys_left"

-- how many there are in each direction
abbrev pub keys_metric : List ℕ → Config → List ℕ
keys_metric own config = metric_head keys_name (codes "gauge") (codes "Keys that may still be installed.")
    ++ (sample keys_name own (codes "side") (codes "tx") (max_spent - length config.spent_tx)
    ++ sample keys_name own (codes "side") (codes "rx") (max_spent - length config.spent_rx))

-- ---- what is reserved

-- packet numbers that are reserved and not used, of transmit associations
abbrev pub tx_reserved_name : List ℕ
tx_reserved_name = codes "macsec_tx_numbers_reserved"

-- how many there are of one, if it exists
abbrev pub tx_reserved_sample : List ℕ → Reserved → ℕ → List ℕ
tx_reserved_sample own reserved an =
    sample_of tx_reserved_name own (codes "an") (decimal an) (reserved.tx an)

-- how many there are of each
abbrev pub tx_reserved_metric : List ℕ → Reserved → List ℕ
tx_reserved_metric own reserved =
    metric_head tx_reserved_name (codes "gauge")
    (codes "Packet numbers reserved and not used, which a power loss would skip.")
    ++ flat_map (tx_reserved_sample own reserved) association_numbers

-- the same of receive associations
abbrev pub rx_reserved_name : List ℕ
rx_reserved_name = codes "macsec_rx_numbers_reserved"

-- how many there are of one, if it exists
abbrev pub rx_reserved_sample : List ℕ → Reserved → List ℕ → ℕ → List ℕ
rx_reserved_sample own reserved sci an =
    sample_of rx_reserved_name (channel_labels own sci) (codes "an") (decimal an) (reserved.rx sci an)

-- how many there are of each of a channel
abbrev pub rx_reserved_samples : List ℕ → Reserved → List ℕ → List ℕ
rx_reserved_samples own reserved sci = flat_map (rx_reserved_sample own reserved sci) association_numbers

-- how many there are of each of these channels
abbrev pub rx_reserved_metric : List ℕ → Reserved → List (List ℕ) → List ℕ
rx_reserved_metric own reserved channels =
    metric_head rx_reserved_name (codes "gauge")
    (codes "Packet numbers reserved and not received, late after a power loss.")
    ++ flat_map (rx_reserved_samples own reserved) channels

-- both
abbrev pub reserved_metrics : List ℕ → Reserved → List (List ℕ) → List ℕ
reserved_metrics own reserved channels =
    tx_reserved_metric own reserved ++ rx_reserved_metric own reserved channels

-- ---- the program

-- which program reports
abbrev pub build_name : List ℕ
build_name = codes "macsecd_build_info"

-- the labels of its version and commit
abbrev pub build_labels : List ℕ → Build → List ℕ
build_labels own build = own ++ (codes ",version=\"" ++ (string_bytes build.version
    ++ (codes "\",commit=\"" ++ (string_bytes build.commit ++ codes "\""))))

-- its description and sample
abbrev pub build_metric : List ℕ → Build → List ℕ
build_metric own build =
    metric_head build_name (codes "gauge") (codes "The program that reports, always 1.")
    ++ sample build_name (build_labels own build) (codes "proved") (string_bytes build.proved) 1

-- ---- all of it

-- the metrics of an endpoint in this state, with these packet numbers reserved, and of its wires, by this program,
-- where all samples have this label
abbrev pub metrics_of : List ℕ → Build → State → Reserved → TxCounters → RxCounters
    → (List ℕ → Option ChannelCounters) → WireReport → WireReport → List ℕ
metrics_of own build s reserved sent received table controlled common =
    tx_metric own sent ++ (rx_metric own received ++ (channel_metric own s table
    ++ (wires_metrics own controlled common ++ (left_metric own s ++ (keys_metric own s.config
    ++ (reserved_metrics own reserved s.config.channels ++ build_metric own build))))))

-- where this is the SCI of the endpoint
abbrev pub metrics_text : Build → State → Reserved → TxCounters → RxCounters → (List ℕ → Option ChannelCounters)
    → WireReport → WireReport → List ℕ
metrics_text build s = metrics_of (own_label s.identity.sci) build s
