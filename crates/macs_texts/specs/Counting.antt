-- The counters of an endpoint and of its wires, as text.
use Rattle.std.specs.Prelude.{ℕ, ◌-◌, ◌^◌, List, [], ◌∷◌, ◌++◌, length, flat_map, codes, Option, Some}
use Rattle.std.specs.Fmt.{decimal}
use Rattle.std.specs.Option.{option_map}
use Rattle.macs_config.specs.Config.{Config, max_spent}
use Rattle.macs_txsc.specs.Transmit.{fault_count}
use Rattle.macs_txsc.specs.declared.counters.TxCounters.{TxCounters}
use Rattle.macs_txsc.specs.declared.fault.TxFault.{TxFault}
use Rattle.macs_txsc.specs.declared.fault.TxFault.TheVariants as tx
use Rattle.macs_rxsc.specs.Counting.{channel_count_of, count_of}
use Rattle.macs_rxsc.specs.declared.counters.ChannelCounters.{ChannelCounters}
use Rattle.macs_rxsc.specs.declared.counters.RxCounters.{RxCounters}
use Rattle.macs_rxsc.specs.declared.verdict.Kind.TheVariants as kind
use Rattle.macs_rxsc.specs.declared.verdict.Reason.TheVariants as reason
use Rattle.macs_rxsc.specs.declared.verdict.Verdict.{Verdict}
use Rattle.macs_rxsc.specs.declared.verdict.Verdict.TheVariants.{Delivered, Discarded, HeldBack}
use Rattle.macs_endpoint.specs.Reserved.{Reserved}
use Rattle.macs_endpoint.specs.State.{State}
use Rattle.macs_edge.specs.declared.counts.WireCounts.{WireCounts}
use Rattle.macs_texts.specs.declared.wire_report.WireNumber.{WireNumber}
use Rattle.macs_texts.specs.declared.wire_report.WireNumber.TheVariants as wire
use Rattle.macs_texts.specs.declared.wire_report.WireReport.{WireReport}
use Rattle.macs_texts.specs.Lines.{channel_name, count_line, count_line_of}
use Rattle.macs_texts.specs.ReservedTexts.{reserved_text}
use Rattle.macs_texts.specs.Showing.{association_numbers}

-- ---- words

-- why a plain frame was not sent
abbrev pub fault_words : TxFault → List ℕ
fault_words tx.Runt = codes "runt"
fault_words tx.TooLong = codes "too-long"
fault_words tx.ForeignSource = codes "foreign-source"
fault_words tx.NoEncodingSa = codes "no-encoding"
fault_words tx.Exhausted = codes "exhausted"
fault_words tx.NoNumber = codes "no-number"

-- what became of a received frame
abbrev pub verdict_words : Verdict → List ℕ
verdict_words (Delivered kind.Ok) = codes "ok"
verdict_words (Delivered kind.Delayed) = codes "delayed"
verdict_words (Delivered kind.Invalid) = codes "invalid"
verdict_words (Delivered kind.Untagged) = codes "untagged"
verdict_words (Delivered kind.UnknownSci) = codes "unknown-sci"
verdict_words (Delivered kind.UnusedSa) = codes "unused-sa"
verdict_words (Discarded reason.Runt) = codes "runt"
verdict_words (Discarded reason.Oversize) = codes "oversize"
verdict_words (Discarded reason.NoTag) = codes "no-tag"
verdict_words (Discarded reason.BadTag) = codes "bad-tag"
verdict_words (Discarded reason.ForKay) = codes "for-kay"
verdict_words (Discarded reason.NoSci) = codes "no-sci"
verdict_words (Discarded reason.NotUsingSa) = codes "not-using-sa"
verdict_words (Discarded reason.Late) = codes "late"
verdict_words (Discarded reason.NotValid) = codes "not-valid"
verdict_words HeldBack = codes "held-back"

-- ---- frames

-- the faults that are counted, in the order in which they are checked
abbrev pub tx_faults : List TxFault
tx_faults = tx.Runt ∷ tx.TooLong ∷ tx.ForeignSource ∷ tx.NoEncodingSa ∷ tx.Exhausted ∷ tx.NoNumber ∷ []

-- how many plain frames met a fault
abbrev pub tx_line : TxCounters → TxFault → List ℕ
tx_line c fault = count_line (codes "tx") (fault_words fault) (fault_count fault c)

-- how many plain frames were protected, and how many met each fault
abbrev pub tx_text : TxCounters → List ℕ
tx_text c = count_line (codes "tx") (codes "protected") c.protected ++ flat_map (tx_line c) tx_faults

-- the verdicts that are counted
abbrev pub rx_verdicts : List Verdict
rx_verdicts =
    Delivered kind.Ok ∷ Delivered kind.Delayed ∷ Delivered kind.Invalid ∷ Delivered kind.Untagged
    ∷ Delivered kind.UnknownSci ∷ Delivered kind.UnusedSa
    ∷ Discarded reason.Runt ∷ Discarded reason.Oversize ∷ Discarded reason.NoTag ∷ Discarded reason.BadTag
    ∷ Discarded reason.ForKay ∷ Discarded reason.NoSci ∷ Discarded reason.NotUsingSa ∷ Discarded reason.Late
    ∷ Discarded reason.NotValid ∷ []

-- how often this verdict was given
abbrev pub rx_line : RxCounters → Verdict → List ℕ
rx_line c verdict = count_line (codes "rx") (verdict_words verdict) (count_of verdict c)

-- how often each verdict was given
abbrev pub rx_text : RxCounters → List ℕ
rx_text c = flat_map (rx_line c) rx_verdicts

-- the verdicts that are counted for a channel
abbrev pub channel_verdicts : List Verdict
channel_verdicts =
    Delivered kind.Ok ∷ Delivered kind.Delayed ∷ Delivered kind.Invalid ∷ Delivered kind.UnusedSa
    ∷ Discarded reason.NotUsingSa ∷ Discarded reason.Late ∷ Discarded reason.NotValid ∷ []

-- how often this verdict was given on frames of a channel, if the channel exists
abbrev pub channel_line : (List ℕ → Option ChannelCounters) → List ℕ → Verdict → List ℕ
channel_line table sci verdict =
    count_line_of (channel_name sci) (verdict_words verdict)
    (option_map (channel_count_of verdict) (table sci))

-- how often each verdict was given on frames of a channel
abbrev pub channel_text : (List ℕ → Option ChannelCounters) → List ℕ → List ℕ
channel_text table sci = flat_map (channel_line table sci) channel_verdicts

-- ---- wires

-- the report of a wire with these counts, of whose datagrams the system dropped `overrun`, if known
abbrev pub reported : WireCounts → Option ℕ → WireReport
reported counts overrun = record { counts = counts; overrun = overrun }

-- the numbers of a wire, in the order in which they are reported
abbrev pub wire_numbers : List WireNumber
wire_numbers =
    wire.Taken ∷ wire.TooLong ∷ wire.Sent ∷ wire.Strangers ∷ wire.FailedReceives ∷ wire.FailedSends ∷ wire.Buffer
    ∷ wire.Overrun ∷ []

-- what a number counts; the buffer's is in octets
abbrev pub wire_words : WireNumber → List ℕ
wire_words wire.Taken = codes "taken"
wire_words wire.TooLong = codes "too-long"
wire_words wire.Sent = codes "sent"
wire_words wire.Strangers = codes "strangers"
wire_words wire.FailedReceives = codes "failed-receives"
wire_words wire.FailedSends = codes "failed-sends"
wire_words wire.Buffer = codes "buffer"
wire_words wire.Overrun = codes "overrun"

-- a number of a wire, if it is known
abbrev pub wire_number : WireReport → WireNumber → Option ℕ
wire_number report wire.Taken = Some report.counts.taken
wire_number report wire.TooLong = Some report.counts.too_long
wire_number report wire.Sent = Some report.counts.sent
wire_number report wire.Strangers = Some report.counts.strangers
wire_number report wire.FailedReceives = Some report.counts.failed_receives
wire_number report wire.FailedSends = Some report.counts.failed_sends
wire_number report wire.Buffer = report.counts.buffer
wire_number report wire.Overrun = report.overrun

-- the line of a number of a wire
abbrev pub wire_line : List ℕ → WireReport → WireNumber → List ℕ
wire_line side report number = count_line_of side (wire_words number) (wire_number report number)

-- the report of a wire, by its number
abbrev pub report_text : List ℕ → WireReport → List ℕ
report_text side report = flat_map (wire_line side report) wire_numbers

-- ---- what is left

-- how many packet numbers are left under a transmit association, if it exists
abbrev pub left_line : State → ℕ → List ℕ
left_line s an = count_line_of (codes "left tx") (decimal an) (option_map (λ next. 2 ^ 32 - next) (s.next an))

-- how many are left under each
abbrev pub left_text : State → List ℕ
left_text s = flat_map (left_line s) association_numbers

-- how many keys may still be installed in each direction
abbrev pub keys_text : Config → List ℕ
keys_text config = count_line (codes "left keys") (codes "tx") (max_spent - length config.spent_tx)
    ++ count_line (codes "left keys") (codes "rx") (max_spent - length config.spent_rx)

-- ---- all of it

-- the counters of an endpoint in this state, with these packet numbers reserved, and of its wires, one per line
abbrev pub counters_text : State → Reserved → TxCounters → RxCounters → (List ℕ → Option ChannelCounters)
    → WireReport → WireReport → List ℕ
counters_text s reserved sent received table controlled common =
    tx_text sent ++ (rx_text received ++ (flat_map (channel_text table) s.config.channels
    ++ (report_text (codes "wire 1") controlled
    ++ (report_text (codes "wire 2") common ++ (left_text s ++ (keys_text s.config
    ++ reserved_text reserved s.config.channels))))))
