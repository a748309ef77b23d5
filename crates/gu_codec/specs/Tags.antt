-- The tags that the service reads or writes, under their FIX names. The code has constants of its
-- own, so that a wrong one there isn't right by definition.
use Rattle.std.specs.Prelude.{ℕ}

-- ---- the header of every message

abbrev pub msg_type : ℕ
msg_type = 35

abbrev pub sender_comp_id : ℕ
sender_comp_id = 49

abbrev pub target_comp_id : ℕ
target_comp_id = 56

abbrev pub msg_seq_num : ℕ
msg_seq_num = 34

abbrev pub poss_dup_flag : ℕ
poss_dup_flag = 43

abbrev pub sending_time : ℕ
sending_time = 52

abbrev pub orig_sending_time : ℕ
orig_sending_time = 122

-- ---- raw and encoded data, which the service doesn't take

abbrev pub raw_data_length : ℕ
raw_data_length = 95

abbrev pub raw_data : ℕ
raw_data = 96

abbrev pub xml_data_len : ℕ
xml_data_len = 212

abbrev pub xml_data : ℕ
xml_data = 213

abbrev pub encoded_text_len : ℕ
encoded_text_len = 354

abbrev pub encoded_text : ℕ
encoded_text = 355

-- ---- tradeCaptureReport and its acknowledgement

abbrev pub trade_report_id : ℕ
trade_report_id = 571

abbrev pub trd_rpt_status : ℕ
trd_rpt_status = 939

abbrev pub symbol : ℕ
symbol = 55

abbrev pub last_qty : ℕ
last_qty = 32

abbrev pub trade_date : ℕ
trade_date = 75

abbrev pub no_sides : ℕ
no_sides = 552

abbrev pub side : ℕ
side = 54

abbrev pub account : ℕ
account = 1

abbrev pub no_party_ids : ℕ
no_party_ids = 453

abbrev pub party_id : ℕ
party_id = 448

abbrev pub party_role : ℕ
party_role = 452

-- ---- allocationInstruction, its acknowledgement and AllocationReport

abbrev pub alloc_id : ℕ
alloc_id = 70

abbrev pub alloc_trans_type : ℕ
alloc_trans_type = 71

abbrev pub alloc_type : ℕ
alloc_type = 626

abbrev pub ref_alloc_id : ℕ
ref_alloc_id = 72

abbrev pub secondary_alloc_id : ℕ
secondary_alloc_id = 793

abbrev pub alloc_status : ℕ
alloc_status = 87

abbrev pub alloc_report_id : ℕ
alloc_report_id = 755

abbrev pub alloc_report_type : ℕ
alloc_report_type = 794

abbrev pub quantity : ℕ
quantity = 53

abbrev pub no_allocs : ℕ
no_allocs = 78

abbrev pub alloc_account : ℕ
alloc_account = 79

abbrev pub alloc_qty : ℕ
alloc_qty = 80

abbrev pub no_nested_party_ids : ℕ
no_nested_party_ids = 539

abbrev pub nested_party_id : ℕ
nested_party_id = 524

abbrev pub nested_party_id_source : ℕ
nested_party_id_source = 525

abbrev pub nested_party_role : ℕ
nested_party_role = 538

-- ---- an agreement in an AllocationInstruction, in tags of this profile's own

abbrev pub agreement_giver : ℕ
agreement_giver = 5001

abbrev pub agreement_taker : ℕ
agreement_taker = 5002

abbrev pub agreement_rate : ℕ
agreement_rate = 5003

abbrev pub agreement_limit : ℕ
agreement_limit = 5004

-- ---- the session

abbrev pub encrypt_method : ℕ
encrypt_method = 98

abbrev pub heart_bt_int : ℕ
heart_bt_int = 108

abbrev pub default_appl_ver_id : ℕ
default_appl_ver_id = 1137

abbrev pub reset_seq_num_flag : ℕ
reset_seq_num_flag = 141

abbrev pub test_req_id : ℕ
test_req_id = 112

abbrev pub begin_seq_no : ℕ
begin_seq_no = 7

abbrev pub end_seq_no : ℕ
end_seq_no = 16

abbrev pub gap_fill_flag : ℕ
gap_fill_flag = 123

abbrev pub new_seq_no : ℕ
new_seq_no = 36

abbrev pub ref_seq_num : ℕ
ref_seq_num = 45

abbrev pub ref_tag_id : ℕ
ref_tag_id = 371

abbrev pub ref_msg_type : ℕ
ref_msg_type = 372

abbrev pub session_reject_reason : ℕ
session_reject_reason = 373

abbrev pub text : ℕ
text = 58
